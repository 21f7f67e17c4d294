-- An image in the other format (request 2 of document 02).
use Rattle.std.specs.Prelude.{◌≡◌, List, ℕ, zero, suc, ◌*◌, eqb, length, replicate, Result as Returned}
use Rattle.page.specs.declared.Format.{Format}
use Rattle.page.specs.Page.{cluster_bytes, page_at, pages_in, written}
use Rattle.model.specs.Check.{Result, fault, ok}
use Rattle.layout.specs.declared.Refusal.{Refusal}
use Rattle.layout.specs.Refusal.{told_by}
use Rattle.layout.specs.Superblock.{clusters_in, good_length, up_to}
use Rattle.layout.specs.Table.{data_of, need_pages, unless}

-- an image with its first n pages written in turn
unfoldable pub filled : Format → (ℕ → List ℕ) → ℕ → List ℕ → List ℕ
filled to content zero image = image
filled to content (suc n) image = written to (filled to content n image) n (content n)

-- the bytes needed: as many clusters as the image has
abbrev pub room_for : Format → Format → List ℕ → ℕ
room_for from to image = cluster_bytes to * clusters_in from (length image)

-- Each page is written with the data of the image's page as read. All else is zero: spare bytes 12 to 15 of a raw one.
unfoldable pub in_format : Format → Format → List ℕ → List ℕ
in_format from to image = filled to (λ p. data_of (page_at from image p)) (pages_in from (length image)) (replicate (room_for from to image) 0)

-- The image converted into an output of `room` bytes. Only the length is judged, by the image's own format, and gives 1;
-- then 23 where the output isn't exactly as long as needed; then 2 for the first unreadable page of all.
unfoldable pub converted : Format → Format → List ℕ → ℕ → Result (List ℕ)
converted from to image room =
    unless (good_length from (length image)) 1
    (unless (eqb room (room_for from to image)) 23
    (need_pages from image (up_to (λ p. p) (pages_in from (length image))) (ok (in_format from to image))))

-- what a call leaves of an output: the image, or on a refusal what it was
abbrev pub output_after : Result (List ℕ) → List ℕ → List ℕ
output_after (fault n p) before = before
output_after (ok image) before = image

-- A call ends with an outcome: its answer tells it, and the output is the image or, on a refusal, what it was.
pub record Converts (outcome : Result (List ℕ)) (answer : Returned (Unit {0}) Refusal) (before after : List ℕ) : Type 0 where
  pub told : told_by (λ u. after) answer ≡ outcome
  pub output : after ≡ output_after outcome before

-- Where a page of the allocatable clusters lies in the image.
use Rattle.layout.specs.declared.Geometry.{Geometry}
use Rattle.std.proofs.Common.{◌≡◌, ℕ, ◌*◌, ◌/◌, ◌<◌, ◌≤◌, Bool, true, false, cond, ltb, List, length, refl, arith, le-ltb, lt-ltb}
use mathlib.Core.Option.{Option, none}
use Rattle.layout.specs.See.{image_page, page_in}
use Rattle.page.specs.Page.{page_at, pages_in}
use Rattle.page.proofs.Laws.{page-past}

-- a page past the clusters is none, any other the image's
pub outside : (geometry : Geometry) (count : ℕ) (image : List ℕ) (page : ℕ) → count ≤ page / 2 → page_in geometry count image page ≡ none
unfolding page_in
outside geometry count image page h = rw (le-ltb page (2 * count) (omega arith))

pub inside : (geometry : Geometry) (count : ℕ) (image : List ℕ) (page p : ℕ) → page / 2 < count → p ≡ image_page geometry page
    → page_in geometry count image page ≡ page_at geometry.format image p
unfolding page_in
inside geometry count image page p h e = rw (lt-ltb page (2 * count) (omega arith), ← e)

-- a page past the image's last one is none, all the more where pages lie below it
pub past : (geometry : Geometry) (count : ℕ) (image : List ℕ) (page n : ℕ) → n ≡ pages_in geometry.format (length image) → n ≤ page
    → page_in geometry count image page ≡ none
unfolding page_in
past geometry count image page n e h =
    let gone : page_at geometry.format image (image_page geometry page) ≡ none = page-past geometry.format image (image_page geometry page) (omega arith) in
    rw gone (go (ltb page (2 * count)))
  where
    go : (b : Bool) → ◌≡◌ {A = Option (List ℕ)} (cond b none none) none
    go true = refl
    go false = refl

-- The bench card's image is accepted: its pages are read by the page laws, and what they say is computed.
use Prim.Native.Nat.{ℕ, zero, suc, ◌*◌, ◌+◌, ◌/◌, ◌%◌, ◌≤◌, ◌<◌}
use mathlib.Core.Bool.{Bool, cond, false, true}
use mathlib.Core.List.{List, [], ◌∷◌, ◌++◌}
use mathlib.Core.Option.{Option, some}
use mathlib.Core.Path.{◌∙◌, ◌≡◌, ap, ap₂, refl, sym}
use native.Mathlib.Omega.{arith}
use lib.Dec.{eqb, lit≤}
use lib.ListN.{length, length-replicate, replicate}
use Rattle.page.specs.declared.Format.{Format}
use Rattle.change.proofs.ChangedLaws.{accepts, checked-whole, refuses}
use Rattle.change.specs.Changed.{Outcome, rules_of}
use Rattle.layout.specs.declared.Superblock.{Superblock}
use Rattle.layout.proofs.OpenFacts.{good-card}
use Rattle.layout.proofs.Stages.{Readable}
use Rattle.layout.specs.Superblock.{clusters_in, good_length, good_superblock, good_text, superblock_of, up_to}
use Rattle.layout.specs.Table.{data_of, good_table_names, names_of, open_card, table_names, table_of, table_page, table_word}
use Rattle.model.proofs.CheckHolds.{holds-check}
use Rattle.model.specs.Bench.{bench_time, bytes, path_a}
use Rattle.model.specs.Bytes.{word}
use Rattle.model.specs.Change.{Change, create}
use Rattle.model.specs.Counts.{list_words, no_block}
use Rattle.model.specs.Check.{check_tree, ok}
use Rattle.model.specs.Holds.{HoldsCard}
use Rattle.model.specs.Refusal.{lock_refusal, refusal}
use Rattle.model.specs.Time.{valid_time}
use Rattle.model.specs.Tree.{Root, end, reached}
use Rattle.model.specs.View.{View}
use Rattle.layout.specs.See.{check_image, page_in, see, view_by}
use Rattle.tree.specs.Counted.{counts_with}
use Rattle.layout.specs.Mended.{mended_in}
use Rattle.model.specs.Names.{dot_dot_name, dot_name}
use Rattle.model.specs.Pages.{decoded, new_page, zero_page}
use Rattle.page.proofs.Erased.{ones-codes}
use Rattle.page.proofs.Laws.{cluster-pages, length-put, page-put}
use Rattle.page.proofs.Mending.{codes-mended, plain-mended}
use Rattle.page.proofs.Twins.{put-codes}
use Rattle.page.specs.Mended.{mended_chunks}
use Rattle.page.specs.Twins.{CodesMatch}
use Rattle.page.specs.declared.Format.TheVariants.{Plain, Raw}
use Rattle.page.specs.Page.{cluster_bytes, page_at, pages_in, written}
use Rattle.page.specs.PageLaws.{Inside}
use Rattle.claims.proofs.ImageClaims.{counted, told}
use Rattle.claims.proofs.NoneMended.{none_in}
use Rattle.claims.specs.Witness.{AcceptedIn, BenchAccepted, bench_dot, bench_image, bench_names, bench_pages, bench_superblock, bench_table, erased, ones_page, write_all}

-- ---- pages written in turn

-- an image of the bench card's length, and pages that it has room for
abbrev Sized : Format → List ℕ → Type 0
Sized format image = length image ≡ cluster_bytes format * 56

bench-pages : (format : Format) → pages_in format (cluster_bytes format * 56) ≡ 112
bench-pages Raw = cluster-pages Raw (cluster_bytes Raw * 56) refl
bench-pages Plain = cluster-pages Plain (cluster_bytes Plain * 56) refl

abbrev Fit : List (ℕ × List ℕ) → Type 0
Fit [] = Unit {0}
Fit (w ∷ ws) = (w.0 < 112) × (length w.1 ≡ 512) × Fit ws

-- the page that is written last counts
abbrev read : List (ℕ × List ℕ) → ℕ → Option (List ℕ) → Option (List ℕ)
read [] q before = before
read (w ∷ ws) q before = read ws q (cond (eqb w.0 q) (some w.1) before)

written-sized : (format : Format) (ws : List (ℕ × List ℕ)) (image : List ℕ) → Fit ws → Sized format image → Sized format (write_all format ws image)
written-sized format [] image f s = s
written-sized format (w ∷ ws) image f s = written-sized format ws (written format image w.0 w.1) f.2 (length-put format true w.0 w.1 image f.1 ∙ s)

written_read : (format : Format) (ws : List (ℕ × List ℕ)) (image : List ℕ) → Fit ws → Sized format image → (q : ℕ) → page_at format (write_all format ws image) q ≡ read ws q (page_at format image q)
written_read format [] image f s q = refl
written_read format (w ∷ ws) image f s q =
    let fits : Inside format image w.0 = rw (s, bench-pages format) f.0 in
    written_read format ws (written format image w.0 w.1) f.2 (length-put format true w.0 w.1 image f.1 ∙ s) q
    ∙ ap (read ws q) (page-put format true w.0 w.1 image f.1 fits q)

-- ---- the bench card's
bench-fit : Fit bench_pages
unfolding bench_pages bench_superblock bench_names bench_table ones_page new_page zero_page
bench-fit = (lit≤ tt, refl, (lit≤ tt, refl, (lit≤ tt, refl, (lit≤ tt, refl, (lit≤ tt, refl, (lit≤ tt, refl, (lit≤ tt, refl, tt)))))))

bench-long : (format : Format) → good_length format (cluster_bytes format * 56) ≡ true
bench-long Raw = refl
bench-long Plain = refl

bench-clusters : (format : Format) → clusters_in format (cluster_bytes format * 56) ≡ 56
bench-clusters Raw = refl
bench-clusters Plain = refl

written-codes : (ws : List (ℕ × List ℕ)) (image : List ℕ) → Fit ws → CodesMatch image → CodesMatch (write_all Raw ws image)
written-codes [] image f h = h
written-codes (w ∷ ws) image f h = written-codes ws (written Raw image w.0 w.1) f.2 (put-codes true w.0 w.1 image f.1 h)

bench-codes : CodesMatch (bench_image Raw)
unfolding bench_image erased
bench-codes = written-codes bench_pages (erased Raw 56) bench-fit (ones-codes (cluster_bytes Raw * 56))

bench-none : (format : Format) (p : ℕ) → mended_chunks format (bench_image format) p ≡ 0
bench-none Raw p = codes-mended (bench_image Raw) p bench-codes
bench-none Plain p = plain-mended (bench_image Plain) p

module _ (format : Format) where
  erased-sized : Sized format (erased format 56)
  unfolding erased
  erased-sized = length-replicate {A = ℕ} (cluster_bytes format * 56) 0xFF

  bench-sized : Sized format (bench_image format)
  unfolding bench_image
  bench-sized = written-sized format bench_pages (erased format 56) bench-fit erased-sized

  bench-read : (q : ℕ) → page_at format (bench_image format) q ≡ read bench_pages q (page_at format (erased format 56) q)
  unfolding bench_image
  bench-read q = written_read format bench_pages (erased format 56) bench-fit erased-sized q

  -- ---- the card is open
  abbrev card : Superblock
  card = record { clusters = 56; geometry = record { format = format; offset = 10 }; end = 30; backup1 = 6; backup2 = 5; indirect = 8; bad = replicate list_words no_block }

  readable : (q : ℕ) (bytes : List ℕ) → page_at format (bench_image format) q ≡ some bytes → Readable format (bench_image format) q
  readable q bytes e = e ∙ ap (λ o. some (data_of o)) (sym e)

  names-are : names_of (bench_image format) card ≡ 9 ∷ []
  unfolding up_to bench_pages bench_names
  names-are =
      ap₂ (λ (first second : Option (List ℕ)). table_names (data_of first ++ data_of second) 1) (bench-read 16) (bench-read 17)

  table-read : (t : ℕ) → t < 2 → Readable format (bench_image format) (table_page (9 ∷ []) t)
  unfolding bench_pages
  table-read zero h = readable 18 bench_table (bench-read 18)
  table-read (suc zero) h = readable 19 ones_page (bench-read 19)
  table-read (suc (suc t)) h = absurd (omega arith)

  opened : open_card format (bench_image format) ≡ ok card
  unfolding up_to bench_pages bench_superblock zero_page
  opened =
      good-card format (bench_image format) card
      (record {
        length-good = ap (good_length format) bench-sized ∙ bench-long format;
        page-read = readable 0 bench_superblock (bench-read 0);
        text-good = ap (λ o. good_text (data_of o)) (bench-read 0);
        numbers-good = ap₂ (λ n o. good_superblock format (clusters_in format n) (data_of o)) bench-sized (bench-read 0) ∙ ap (λ n. good_superblock format n bench_superblock) (bench-clusters format);
        superblock = ap (λ o. superblock_of format (data_of o)) (bench-read 0);
        table = record {
          indirect-good = refl;
          first_read = readable 16 bench_names (bench-read 16);
          second-read = readable 17 ones_page (bench-read 17);
          names-good = ap (λ names. good_table_names 10 card.bad (8 ∷ []) names) names-are;
          table-read = λ t h. rw names-are (table-read t h);
        };
      })

  -- ---- its table and its root
  abbrev words : List ℕ
  words = 0xFFFFFFFF ∷ replicate 29 0x7FFFFFFF

  word-is : (c : ℕ) → c < 30 → table_word format (bench_image format) (9 ∷ []) c ≡ word bench_table (4 * c)
  unfolding bench_pages
  word-is c h =
      let first : c / 128 ≡ 0 = omega arith in
      let place : c % 128 ≡ c = omega arith in
      ap₂ (λ (t k : ℕ). word (data_of (page_at format (bench_image format) (table_page (9 ∷ []) t))) (4 * k)) first place ∙ ap (λ o. word (data_of o) (4 * c)) (bench-read 18)

  up-to-same : (f g : ℕ → ℕ) (n : ℕ) → ((c : ℕ) → c < n → f c ≡ g c) → up_to f n ≡ up_to g n
  unfolding up_to
  up-to-same f g zero e = refl
  up-to-same f g (suc n) e = ap₂ (λ l x. l ++ (x ∷ [])) (up-to-same f g n (λ c h. e c (omega arith))) (e n (omega arith))

  table_is : table_of (bench_image format) card ≡ words
  unfolding table_of up_to bench_table
  table_is = ap (λ names. up_to (table_word format (bench_image format) names) 30) names-are ∙ up-to-same (table_word format (bench_image format) (9 ∷ [])) (λ c. word bench_table (4 * c)) 30 word-is

  -- the view with these words
  abbrev view : View
  view = view_by card.geometry words (bench_image format)

  view-is : see card (bench_image format) ≡ view
  view-is = ap (λ (t : List ℕ). view_by card.geometry t (bench_image format)) table_is

  abbrev root : Root
  root = record { root_entry = bench_dot 2 dot_name; chain = 0 ∷ []; slots = end }

  dot-seen : view.entry 0 ≡ some (bench_dot 2 dot_name)
  unfolding page_in bench_pages new_page zero_page
  dot-seen = ap decoded (bench-read 20)

  dot-dot-seen : view.entry 1 ≡ some (bench_dot 0 dot_dot_name)
  unfolding page_in bench_pages new_page zero_page
  dot-dot-seen = ap decoded (bench-read 21)

  once : (b : Bool) → cond b 1 0 + 0 + 0 ≤ 1
  once true = lit≤ tt
  once false = lit≤ tt

  holds : HoldsCard view root
  holds =
      record {
        root_page = dot-seen;
        good = refl;
        long = refl;
        links = (refl, refl);
        dots = ((bench_dot 2 dot_name, dot-seen, refl), (bench_dot 0 dot_dot_name, dot-dot-seen, refl));
        uniq = λ n. lit≤ tt;
        rep = tt;
        once = λ c. once (eqb 0 c);
      }

  checked : check_image format (bench_image format) ≡ ok (card, root, reached root)
  checked =
      let walked : check_tree (see card (bench_image format)) ≡ ok (root, reached root) = ap (λ (v : View). check_tree v) view-is ∙ holds-check view root holds in
      checked-whole format (bench_image format) card root (reached root) opened walked

  -- ---- a file on it
  abbrev file : ℕ → Change
  file size = create path_a bench_time (bytes size)

  refused-by : (c : Change) → refusal (rules_of card) c (see card (bench_image format)) root ≡ refusal (rules_of card) c view root
  refused-by c = ap (λ (v : View). refusal (rules_of card) c v root) view-is

  full : refusal (rules_of card) (file 28672) view root ≡ 0
  unfolding refusal lock_refusal valid_time
  full = refl

  too_much_lem : refusal (rules_of card) (file 28673) view root ≡ 12
  unfolding refusal lock_refusal valid_time
  too_much_lem = refl

  -- all its codes match, so that no chunk is corrected
  none-corrected : mended_in (bench_image format) card root ≡ 0
  none-corrected = none_in format (bench_image format) (bench-none format) card root (reached root) checked

  accepted-in : AcceptedIn format
  accepted-in =
      record {
        counts = counted format (bench_image format) card root (reached root) checked ∙ ap₂ (λ (v : View) (n : ℕ). ok (counts_with card v root n)) view-is none-corrected;
        full = told format (bench_image format) card root (reached root) checked (file 28672) (accepts format (bench_image format) card root (reached root) checked (file 28672) (refused-by (file 28672) ∙ full));
        too_much = ap (λ (o : Outcome). o.answer) (refuses format (bench_image format) card root (reached root) checked (file 28673) 11 (refused-by (file 28673) ∙ too_much_lem)).0;
      }

pub bench-accepted : BenchAccepted
bench-accepted = accepted-in

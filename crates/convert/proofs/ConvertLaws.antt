-- The claims on conversions.
use mathlib.Core.Path.{◌≡◌, refl, sym, ap, ap₂, ◌∙◌}
use mathlib.Core.Bool.{Bool, true, false, ◌&&◌}
use mathlib.Core.List.{List}
use Prim.Native.Nat.{ℕ, ◌*◌, ◌%◌}
use native.Mathlib.Omega.{arith}
use borrow.Author.Tests.{eq-eqb, eqb-true}
use lib.Dec.{eqb, leb}
use lib.ListN.{length, replicate, length-replicate}
use Rattle.page.specs.declared.Format.{Format}
use Rattle.page.specs.declared.Format.TheVariants.{Plain, Raw}
use Rattle.page.specs.Page.{cluster_bytes, is_some, page_at, page_start, pages_in}
use Rattle.page.specs.Twins.{CodesMatch, SameData}
use Rattle.page.proofs.Formats.{whole-clusters}
use Rattle.page.proofs.Laws.{cluster-pages, page-length}
use Rattle.page.proofs.Twins.{clusters-start, codes-readable, pages-start, plain-one, plain-readable, same_back, same-clusters, same-through, same_whole, spare-zero}
use Rattle.model.specs.Check.{Result, fault, ok}
use Rattle.model.specs.View.{most_clusters}
use Rattle.model.proofs.Equality.{and_l, tf}
use Rattle.layout.specs.Superblock.{clusters_in, good_length, least_clusters}
use Rattle.layout.specs.Table.{data_of, need_pages, unless}
use Rattle.layout.proofs.Stages.{same_ok, there, unless-ok}
use Rattle.convert.specs.Converted.{converted, in_format, room_for}
use Rattle.convert.specs.Claims.{AllReadable, CanConvert, ConvertedExactly, ConvertedOne, Fresh, Lowest, LowestNamed, PlainComesBack, PlainNever2, RawComesBack, RawIsFresh, SameDataConverted, TwinConverted}
use Rattle.convert.proofs.AllPages.{all_pass, all-passed, lowest, page_list}
use Rattle.convert.proofs.Filled.{Sized, codes-filled, length-filled, page-filled, spare-filled}

-- ---- when an image is converted
module _ (from to : Format) (image : List ℕ) (room : ℕ) where
  converts : CanConvert from to image room → converted from to image room ≡ ok (in_format from to image)
  unfolding converted unless
  converts can =
      rw (can.good, eq-eqb room (room_for from to image) can.long) (all_pass from image (ok (in_format from to image)) can.readable)

  pub can-convert : (result : List ℕ) → converted from to image room ≡ ok result → CanConvert from to image room × (result ≡ in_format from to image)
  unfolding converted
  can-convert result e =
      let length-good = unless-ok (good_length from (length image)) 1 _ result e in
      let room-right = unless-ok (eqb room (room_for from to image)) 23 _ result length-good.1 in
      let passed = all-passed from image (ok (in_format from to image)) result room-right.1 in (
        record { good = length-good.0; long = eqb-true room (room_for from to image) room-right.0; readable = passed.1 },
        sym (same_ok (in_format from to image) result passed.0),
      )

  pub named : (p : ℕ) → converted from to image room ≡ fault 2 p → Lowest from image p
  unfolding converted unless
  named p e = go (good_length from (length image)) (eqb room (room_for from to image)) e
    where
      other : {B : Type 0} (n : ℕ) → (n ≡ 2 → ⊥) → ◌≡◌ {A = Result (List ℕ)} (fault n 0) (fault 2 p) → B
      other n d x = let z : n ≡ 2 = cc in absurd (d z)

      go : (good right : Bool)
          → unless good 1 (unless right 23 (need_pages from image (page_list from image) (ok (in_format from to image)))) ≡ fault 2 p → Lowest from image p
      go true true x = lowest from image (in_format from to image) p x
      go true false x = other 23 (λ z. omega arith) x
      go false right x = other 1 (λ z. omega arith) x

pub converted-exactly : ConvertedExactly
converted-exactly from to image room = (λ e. (can-convert from to image room (in_format from to image) e).0, converts from to image room)

pub converted-one : ConvertedOne
converted-one from to image room result e = (can-convert from to image room result e).1

pub lowest-named : LowestNamed
lowest-named = named

pub plain-never-2 : PlainNever2
plain-never-2 to image room p e =
    let low = named Plain to image room p e in
    tf (sym (ap is_some low.unreadable) ∙ plain-readable image p low.inside) refl

-- ---- what the image is
good-whole : (format : Format) (bytes : ℕ) → good_length format bytes ≡ true → bytes % cluster_bytes format ≡ 0
good-whole format bytes good = eqb-true (bytes % cluster_bytes format) 0 (and_l _ _ good)

module _ (from to : Format) (image : List ℕ) (good : good_length from (length image) ≡ true) (all : AllReadable from image) where
  abbrev pages : ℕ
  pages = pages_in from (length image)

  abbrev blank : List ℕ
  blank = replicate (room_for from to image) 0

  abbrev content : ℕ → List ℕ
  content p = data_of (page_at from image p)

  sized : Sized content pages
  sized p h = page-length from image p (content p) (there (page_at from image p) (all p h))

  whole : length image % cluster_bytes from ≡ 0
  whole = good-whole from (length image) good

  -- as many pages as there are clusters, twice
  clusters-long : (format : Format) → cluster_bytes format * clusters_in from (length image) ≡ page_start format pages
  clusters-long format = clusters-start format (clusters_in from (length image)) ∙ ap (page_start format) (sym (cluster-pages from (length image) whole))

  blank-pages : pages_in to (length blank) ≡ pages
  blank-pages = ap (pages_in to) (length-replicate (room_for from to image) 0 ∙ clusters-long to) ∙ pages-start to pages

  result-long : length (in_format from to image) ≡ room_for from to image
  unfolding in_format
  result-long = length-filled to content blank pages sized ∙ length-replicate (room_for from to image) 0

  result-same : SameData from to image (in_format from to image)
  unfolding in_format
  result-same =
      record {
        pages = pages;
        long = whole-clusters from (length image) whole ∙ clusters-long from;
        twin-long = result-long ∙ clusters-long to;
        read = λ p h. there (page_at from image p) (all p h) ∙ sym (page-filled to content blank pages sized (omega (arith, blank-pages)) p h);
      }

result-fresh : (from : Format) (image : List ℕ) → good_length from (length image) ≡ true → AllReadable from image → Fresh (in_format from Raw image)
unfolding in_format
result-fresh from image good all =
    let n = pages from Raw image good all in
    let held = ap (pages_in Raw) (result-long from Raw image good all ∙ clusters-long from Raw image good all Raw) ∙ pages-start Raw n in
    record {
      codes = λ p k h b.
          codes-filled (content from Raw image good all) (blank from Raw image good all) n (sized from Raw image good all)
          (omega (arith, blank-pages from Raw image good all)) p k (rw held at h) b;
      spare = λ p j h k.
          spare-filled (content from Raw image good all) (blank from Raw image good all) n (sized from Raw image good all) p j h k
          ∙ spare-zero (room_for from Raw image) p j k;
    }

pub same-data-converted : SameDataConverted
same-data-converted from to image room result e =
    let can = can-convert from to image room result e in
    rw can.1 (result-same from to image can.0.good can.0.readable)

pub raw-is-fresh : RawIsFresh
raw-is-fresh from image room raw e =
    let can = can-convert from Raw image room raw e in
    rw can.1 (result-fresh from image can.0.good can.0.readable)

-- ---- there and back
-- an image is of a card's length where one with its data is
pub same_good : {one other : Format} {image twin : List ℕ} → SameData one other image twin → good_length one (length image) ≡ good_length other (length twin)
same_good same =
    ap₂ (λ (whole : Bool) (n : ℕ). whole && (eqb (n % 8) 0 && (leb least_clusters n && leb n most_clusters))) (same_whole same) (same-clusters same)

-- and converts into one as long
twin-can : {one other : Format} {image twin : List ℕ} → SameData one other image twin → good_length one (length image) ≡ true → AllReadable one image
    → CanConvert one other image (length twin)
twin-can {one} {other} {image} {twin} same good all =
    record {
      good = good;
      long = whole-clusters other (length twin) (good-whole other (length twin) (sym (same_good same) ∙ good))
          ∙ ap (λ (n : ℕ). cluster_bytes other * n) (sym (same-clusters same));
      readable = all;
    }

pub twin-converted : TwinConverted
twin-converted raw good codes =
    let all : AllReadable Raw raw = λ p. codes-readable raw p codes in
    let same : SameData Raw Plain raw (in_format Raw Plain raw) = result-same Raw Plain raw good all in
    record {
      there = converts Raw Plain raw (length (in_format Raw Plain raw)) (twin-can same good all);
      same = same;
      one = λ other also. plain-one also same;
    }

-- so to any plain image with its data
pub to-twin : (raw plain : List ℕ) → good_length Raw (length raw) ≡ true → CodesMatch raw → SameData Raw Plain raw plain
    → converted Raw Plain raw (length plain) ≡ ok plain
to-twin raw plain good codes same = let twin = twin-converted raw good codes in rw (twin.one plain same) twin.there

pub plain-comes-back : PlainComesBack
plain-comes-back plain good =
    let all : AllReadable Plain plain = plain-readable plain in
    let raw = in_format Plain Raw plain in
    let same : SameData Plain Raw plain raw = result-same Plain Raw plain good all in
    record {
      there = converts Plain Raw plain (length raw) (twin-can same good all);
      back = to-twin raw plain (sym (same_good same) ∙ good) (result-fresh Plain plain good all).codes (same_back same);
    }

pub raw-comes-back : RawComesBack
raw-comes-back raw room plain e =
    let can = can-convert Raw Plain raw room plain e in
    let same : SameData Raw Plain raw plain = same-data-converted Raw Plain raw room plain e in
    let good : good_length Plain (length plain) ≡ true = sym (same_good same) ∙ can.0.good in
    let all : AllReadable Plain plain = plain-readable plain in
    record {
      back = converts Plain Raw plain (length raw) (twin-can (same_back same) good all);
      same = same-through same (result-same Plain Raw plain good all);
      codes = (result-fresh Plain plain good all).codes;
    }

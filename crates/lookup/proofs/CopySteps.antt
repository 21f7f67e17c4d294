-- The loop of `copy_pages`: the bytes copied so far and those of the pages left are the whole copy; so it is with the count.
use Rattle.std.specs.Prelude.{None}
use Prim.Native.Nat.{◌+◌, ◌-◌, ◌<◌, ◌≤◌, ℕ}
use borrow.Rule.Slice.PartMut.{put_mid}
use mathlib.Core.Bool.{Bool}
use mathlib.Core.List.{List, ◌++◌}
use mathlib.Core.Logic.{◌⊎◌, inr, ⊎_elim}
use mathlib.Core.Option.{some}
use mathlib.Core.Path.{◌∙◌, ◌≡◌, ap, refl}
use native.Mathlib.Omega.{arith}
use lib.ListN.{length, length-append, length-drop, length-take, take}
use Rattle.std.proofs.Common.{append_assoc}
use Rattle.std.proofs.lemmas.Slice.{take-put_mid}
use Rattle.model.specs.Bytes.{slice}
use Rattle.model.specs.Needed.{total_over}
use Rattle.model.specs.View.{View}
use Rattle.page.specs.Mended.{wrapped}
use Rattle.page.specs.Page.{Read}
use Rattle.tree.specs.Mended.{count_after}
use Rattle.tree.specs.Scan.{scan, unread}
use Rattle.tree.specs.Slots.{cluster_after, slot_page}
use Rattle.lookup.specs.Descend.{Piece, data_along, pages_for, pages_from}
use Rattle.lookup.proofs.CopyLaws.{slice-length}
use Rattle.lookup.proofs.MendedLaws.{count-end, count-page}
use Rattle.lookup.proofs.PagesLaws.{copy_step}

module _ (v : View) (t : List ℕ) (mend : ℕ → ℕ) where
  -- `done` bytes are copied, and the copy goes on at byte `from` of page k, which lies in cluster c
  pub record Copying (whole : List ℕ) (total high c k from done : ℕ) (out : List ℕ) (mended : ℕ) : Type 0 where
    pub within : done ≤ length out
    pub inside : from < 512
    pub last : high ≡ k + pages_for from (length out - done)
    pub readable : scan (unread v) (pages_from t c k from (length out - done)) k ≡ None
    pub bytes : take done out ++ slice (data_along v (pages_from t c k from (length out - done))) from (length out - done) ≡ whole
    pub count : wrapped (mended + total_over mend (pages_from t c k from (length out - done))) ≡ total
    pub more : (0 < length out - done) ⊎ (from ≡ 0)

  module _ {whole : List ℕ} {total high c k from done : ℕ} {out : List ℕ} {mended : ℕ} (w : Copying whole total high c k from done out mended) where
    -- after the last page the count is whole
    pub count-whole : high ≤ k → wrapped mended ≡ total
    count-whole h =
        let none_left : from + (length out - done) ≡ 0 = omega (arith, w.last) in
        count-end v mend t c k from (length out - done) mended (omega arith) (omega arith) w.count

    -- a page more: its piece of the bytes, and its chunks
    pub copy-page : ((p : ℕ) (d : List ℕ) → v.page p ≡ some d → length d ≡ 512) → k < high → (n x page next m j : ℕ) (part : List ℕ) {before after : List ℕ} {r : Bool} → Piece from (length out - done) n
        → page ≡ slot_page c k → x ≡ cluster_after t c k → Read (v.page page) before r after → next ≡ count_after (v.page page) (mend page) mended → m ≡ n → j ≡ n → part ≡ slice after from j
        → Copying whole total high x (k + 1) 0 (done + n) (put_mid done m out part) next
    copy-page sized h n x page next m j part {after = after} cut at s read counted e g f =
        let now : 0 < length out - done = ⊎_elim (λ (p : 0 < length out - done). p) (λ (z : from ≡ 0). omega (arith, w.last)) w.more in
        let step = copy_step v sized t c k from (length out - done) n x page (length out - done - n) w.inside now cut s at refl w.readable read in
        let size : length part ≡ n = ap length f ∙ slice-length after from j (omega (arith, step.long, cut.within)) ∙ g in
        let same : length (put_mid done m out part) ≡ length out = simp (length-append, length-take, length-drop) (omega (arith, w.within, cut.wanted)) in
        let left : length (put_mid done m out part) - (done + n) ≡ length out - done - n = omega arith in
        let front : take (done + n) (put_mid done m out part) ≡ take done out ++ part = take-put_mid done m out part (done + n) (omega arith) w.within in
        record {
          within = omega (arith, same, w.within, cut.wanted);
          inside = omega arith;
          last = rw left (omega (arith, w.last, step.fewer));
          readable = rw left step.later;
          bytes = rw (left, front, append_assoc, f, g, ← step.bytes) w.bytes;
          count = rw left (count-page v mend t c k from (length out - done) x page (length out - done - n) mended step.fewer s at w.readable counted w.count);
          more = inr refl;
        }

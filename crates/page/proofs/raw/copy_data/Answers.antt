-- Each chunk of the copy is corrected in its place, and the four make up all of it.
use Rattle.std.proofs.Common.{◌≡◌, ℕ, ◌+◌, ◌-◌, ◌≤◌, inr, List, [], ◌++◌, length, take, refl, ap, ◌∙◌, append-nil, append_assoc, arith, length-append, length-take-le, drop_of_length-le}
use borrow.Rule.Slice.PartMut.{put_mid}
use Rattle.ecc.specs.declared.Verdict.{Verdict}
use Rattle.ecc.specs.Judge.{corrected}
use Rattle.ecc.proofs.Laws.{length-corrected}
use Rattle.page.specs.Page.{part, put_at, corrected_data}
use Rattle.page.proofs.Lists.{length_part, part-take, part-put-apart, put-append, lent_back}
use Rattle.page.proofs.raw.copy_data.Goals as goal

-- `now` is l with what is corrected so far put at its beginning; the next chunk is corrected after it
next : (l s : List ℕ) (k : ℕ) (v : Verdict) {now m : List ℕ} → length s ≡ k → k + 128 ≤ length l → now ≡ put_at l 0 s
    → m ≡ corrected v (part now k 128) → put_mid k (k + 128 - k) now m ≡ put_at l 0 (s ++ corrected v (part l k 128))
next l s k v {now} {m} e h f g =
    let kept : part (put_at l 0 s) k 128 ≡ part l k 128 = part-put-apart l 0 s (omega arith) k 128 h (inr (omega arith)) in
    let chunk : m ≡ corrected v (part l k 128) = g ∙ rw f (ap (corrected v) kept) in
    let long : length m ≡ 128 = ap length chunk ∙ length-corrected v (part l k 128) ∙ length_part l k 128 h in
    lent_back now k 128 m long ∙ rw (f, chunk) (put-append l 0 s (corrected v (part l k 128)) k (omega arith) (rw (← chunk) (omega arith)))

all-corrected : (page l m0 m1 m2 m3 : List ℕ) (v0 v1 v2 v3 : Verdict) → length page ≡ 528 → l ≡ take 512 page
    → m0 ≡ corrected v0 (part l 0 128)
    → m1 ≡ corrected v1 (part (put_mid 0 128 l m0) 128 128)
    → m2 ≡ corrected v2 (part (put_mid 128 128 (put_mid 0 128 l m0) m1) 256 128)
    → m3 ≡ corrected v3 (part (put_mid 256 128 (put_mid 128 128 (put_mid 0 128 l m0) m1) m2) 384 128)
    → put_mid 384 128 (put_mid 256 128 (put_mid 128 128 (put_mid 0 128 l m0) m1) m2) m3 ≡ corrected_data page v0 v1 v2 v3
unfolding corrected_data
all-corrected page l m0 m1 m2 m3 v0 v1 v2 v3 h e f0 f1 f2 f3 =
    let long : length l ≡ 512 = ap length e ∙ length-take-le 512 page (omega arith) in
    let c0 = corrected v0 (part l 0 128) in
    let c1 = corrected v1 (part l 128 128) in
    let c2 = corrected v2 (part l 256 128) in
    let c3 = corrected v3 (part l 384 128) in
    let n0 = length-corrected v0 (part l 0 128) ∙ length_part l 0 128 (omega arith) in
    let n1 = length-corrected v1 (part l 128 128) ∙ length_part l 128 128 (omega arith) in
    let n2 = length-corrected v2 (part l 256 128) ∙ length_part l 256 128 (omega arith) in
    let n3 = length-corrected v3 (part l 384 128) ∙ length_part l 384 128 (omega arith) in
    let k1 = length-append c0 c1 in
    let k2 = length-append (c0 ++ c1) c2 in
    let k3 = length-append ((c0 ++ c1) ++ c2) c3 in
    let all = next l ((c0 ++ c1) ++ c2) 384 v3 (omega arith) (omega arith)
    (next l (c0 ++ c1) 256 v2 (omega arith) (omega arith)
    (next l c0 128 v1 (omega arith) (omega arith) (next l [] 0 v0 refl (omega arith) refl f0) f1) f2) f3 in
    let same0 = ap (λ (t : List ℕ). part t 0 128) e ∙ part-take page 0 128 512 (omega arith) in
    let same1 = ap (λ (t : List ℕ). part t 128 128) e ∙ part-take page 128 128 512 (omega arith) in
    let same2 = ap (λ (t : List ℕ). part t 256 128) e ∙ part-take page 256 128 512 (omega arith) in
    let same3 = ap (λ (t : List ℕ). part t 384 128) e ∙ part-take page 384 128 512 (omega arith) in
    all ∙ ap (λ (t : List ℕ). (((c0 ++ c1) ++ c2) ++ c3) ++ t) (drop_of_length-le l {i = 0 + length (((c0 ++ c1) ++ c2) ++ c3)} (omega arith))
    ∙ simp (append-nil, append_assoc, same0, same1, same2, same3)

pub returns : goal.returns
returns c =
    let v = c.args.verdicts in
    all-corrected c.args.page.now _ _ _ _ _ v.chunk0 v.chunk1 v.chunk2 v.chunk3 (omega arith) c.copy_from_slice.ensures.after
    c.correct.ensures c.correct-2.ensures c.correct-3.ensures c.correct-4.ensures

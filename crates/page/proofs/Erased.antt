-- A card as it is erased: ones, which in a raw image are also the code of each chunk.
use Rattle.std.proofs.Common.{◌≡◌, ℕ, zero, suc, ◌+◌, ◌<◌, ◌≤◌, List, length, replicate, sym, ap, ◌∙◌, arith, length-drop, length-take, ext_get_or}
use lib.ListN.{length-replicate, get_or-replicate}
use Rattle.ecc.specs.declared.Verdict.TheVariants.{Good}
use Rattle.ecc.proofs.Numbers.{all_ones}
use Rattle.page.specs.declared.Format.TheVariants.{Raw}
use Rattle.page.specs.Page.{page_start, part, verdict_of}
use Rattle.page.specs.Twins.{CodesMatch}
use Rattle.page.proofs.Formats.{inside-whole}
use Rattle.page.proofs.Lists.{get_d_part}

ones-part : (n a m : ℕ) → a + m ≤ n → part (replicate n 0xFF) a m ≡ replicate m 0xFF
ones-part n a m h =
    ext_get_or 0 (part (replicate n 0xFF) a m) (replicate m 0xFF)
    (simp (length-take, length-drop) (omega (arith, length-replicate {A = ℕ} n 0xFF, length-replicate {A = ℕ} m 0xFF)))
    (λ i b.
    let low : i < m = omega (arith, simp (length-take, length-drop) at b, length-replicate {A = ℕ} n 0xFF) in
    get_d_part (replicate n 0xFF) a m i low ∙ get_or-replicate n (a + i) 0xFF 0 (omega arith) ∙ sym (get_or-replicate m i 0xFF 0 low))

ones-good : (k : ℕ) → k < 4 → verdict_of (replicate 528 0xFF) k ≡ Good
unfolding verdict_of
ones-good zero h = all_ones
ones-good (suc zero) h = all_ones
ones-good (suc (suc zero)) h = all_ones
ones-good (suc (suc (suc zero))) h = all_ones
ones-good (suc (suc (suc (suc k)))) h = absurd (omega arith)

pub ones-codes : (n : ℕ) → CodesMatch (replicate n 0xFF)
ones-codes n p k i h =
    let whole = inside-whole Raw (length (replicate n 0xFF)) p i in
    ap (λ (page : List ℕ). verdict_of page k) (ones-part n (page_start Raw p) 528 (omega (arith, length-replicate {A = ℕ} n 0xFF))) ∙ ones-good k h

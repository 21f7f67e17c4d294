-- The data and four codes put side by side leave only spare bytes 12 to 15 of the old page.
use Rattle.std.proofs.Common.{◌≡◌, ℕ, List, ◌++◌, ◌+◌, ◌*◌, add-one, length, drop, sym, refl, ap, ◌∙◌, arith, length-drop, length-take-le, take_all}
use Rattle.page.specs.Page.{put_at, fresh_code, coded_page}
use Rattle.page.proofs.Coded.{with-codes}
use Rattle.page.proofs.Lists.{put_four}
use Rattle.page.proofs.raw.write_raw.Goals as goal

coded-all : (page bytes : List ℕ) → length page ≡ 528 → length bytes ≡ 512 → with-codes bytes 4 (bytes ++ drop 512 page) ≡ coded_page page bytes
unfolding coded_page fresh_code
coded-all page bytes h hb =
    put_four page bytes (fresh_code bytes 0) (fresh_code bytes 1) (fresh_code bytes 2) (fresh_code bytes 3) _ _ _ _ _ 512 3 (omega arith) hb refl refl refl refl
    (ap (λ (k : ℕ). bytes ++ drop k page) {x = 512} {y = 0 + length bytes} (omega arith)) refl refl refl refl
    ∙ ap (λ (t : List ℕ). bytes ++ (fresh_code bytes 0 ++ (fresh_code bytes 1 ++ (fresh_code bytes 2 ++ (fresh_code bytes 3 ++ t)))))
    (sym (take_all 4 (drop 524 page) (omega (arith, length-drop 524 page))))

pub slice_bounds-copy_from_slice-end-2 : goal.slice_bounds-copy_from_slice-end-2
slice_bounds-copy_from_slice-end-2 c = sym (length-take-le 512 c.args.page.now (omega arith))

pub copy_from_slice-requires : goal.copy_from_slice-requires
copy_from_slice-requires c = length-take-le 512 c.args.page.now (omega arith) ∙ omega arith

pub loop-k-preserved : goal.loop-k-preserved
loop-k-preserved c =
    let bytes = c.args.bytes.now in
    let k = c.loop-k.k in
    rw (add-one k) (c.put_code.ensures ∙ ap (λ (l : List ℕ). put_at l (512 + 3 * k) (fresh_code bytes k)) c.loop-k.invariant)

pub returns : goal.returns
returns c = let k : c.loop-k.k ≡ 4 = omega arith in rw k at c.loop-k.invariant ∙ coded-all c.args.page.now c.args.bytes.now (omega arith) (omega arith)

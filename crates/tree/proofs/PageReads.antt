-- What the code reads of a page is the view's.
use Rattle.layout.specs.declared.Geometry.{Geometry}
use Rattle.std.proofs.Common.{◌≡◌, ℕ, ◌*◌, Bool, true, false, cond, not, ◌&&◌, ltb, List, length, refl, ◌∙◌, arith}
use mathlib.Core.Option.{Option, none, some}
use Rattle.model.specs.Entry.{Entry, entry_of, is_live}
use Rattle.model.specs.Names.{Name, same_name}
use Rattle.model.specs.Pages.{decoded}
use Rattle.page.specs.Page.{Read, is_some, page_at}
use Rattle.page.proofs.Laws.{page-length}
use Rattle.layout.specs.See.{image_page, page_in}
use Rattle.tree.specs.Scan.{bears, dies, lives}
use Rattle.tree.proofs.LookLaws.{was_read}

-- a page with an entry is readable
pub readable : {o : Option (List ℕ)} {before after : List ℕ} {r : Bool} {e : Entry} → Read o before r after → decoded o ≡ some e → r ≡ true
readable {o} k e = k.readable ∙ go o e
  where
    go : {e : Entry} (o : Option (List ℕ)) → decoded o ≡ some e → is_some o ≡ true
    go none h = absurd (let z : ◌≡◌ {A = ℕ} 0 1 = cc in omega arith)
    go (some d) h = refl

pub named_live : {o : Option (List ℕ)} {before after : List ℕ} {r : Bool} (n : Name) (a b : Bool) → Read o before r after → r ≡ true
    → a ≡ is_live (entry_of after) → b ≡ same_name (entry_of after).name n → (a && b) ≡ bears n (decoded o)
named_live n a b k e f g = rw (was_read k e, f, g)

pub shown-live : {o : Option (List ℕ)} {before after : List ℕ} {r : Bool} (a : Bool) → Read o before r after → r ≡ true
    → a ≡ is_live (entry_of after) → a ≡ lives (decoded o)
shown-live a k e f = rw (was_read k e, f)

pub shown-dead : {o : Option (List ℕ)} {before after : List ℕ} {r : Bool} (a : Bool) → Read o before r after → r ≡ true
    → a ≡ is_live (entry_of after) → not a ≡ dies (decoded o)
shown-dead a k e f = rw (was_read k e, f)

pub none-lives : {o : Option Entry} → o ≡ none → false ≡ lives o
none-lives e = rw e

-- a page that the view reads has 512 bytes
pub view-sized : (geometry : Geometry) (count : ℕ) (image : List ℕ) (p : ℕ) (d : List ℕ) → page_in geometry count image p ≡ some d → length d ≡ 512
unfolding page_in
view-sized geometry count image p d e = go (ltb p (2 * count)) e
  where
    go : (b : Bool) → cond b (page_at geometry.format image (image_page geometry p)) none ≡ some d → length d ≡ 512
    go true h = page-length geometry.format image (image_page geometry p) d h
    go false h = absurd (let z : ◌≡◌ {A = ℕ} 0 1 = cc in omega arith)

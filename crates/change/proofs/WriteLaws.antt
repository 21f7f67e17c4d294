-- Pages written in two parts, and data whose pages are plain to see: none, and a cluster of zeros.
use Rattle.layout.specs.See.{image_page}
use Rattle.layout.specs.declared.Geometry.{Geometry}
use Prim.Native.Nat.{ℕ}
use mathlib.Core.List.{List, [], ◌++◌, ◌∷◌}
use mathlib.Core.Option.{some}
use mathlib.Core.Path.{◌∙◌, ◌≡◌, ap, refl, sym}
use lib.ListN.{replicate, replicate-append-replicate}
use Rattle.page.specs.Page.{put}
use Rattle.model.specs.Pages.{data_pages, zero_page}
use Rattle.model.specs.Writes.{PageWrite}
use Rattle.model.proofs.PageBytes.{length-zero}
use Rattle.change.specs.Image.{write_pages}
use Rattle.change.proofs.SiteFacts.{two-pages}

pub written-append : (geometry : Geometry) (xs ys : List PageWrite) (image : List ℕ) → write_pages geometry (xs ++ ys) image ≡ write_pages geometry ys (write_pages geometry xs image)
written-append geometry [] ys image = refl
written-append geometry (w ∷ xs) ys image = written-append geometry xs ys (put geometry.format w.always (image_page geometry w.page) w.bytes image)

pub no-data : data_pages [] ≡ []
unfolding data_pages
no-data = refl

two-zero-pages : ◌≡◌ {A = List ℕ} (replicate 1024 0) (zero_page ++ zero_page)
unfolding zero_page
two-zero-pages = sym (replicate-append-replicate 512 512 0)

pub zero-data : data_pages (replicate 1024 0) ≡ some zero_page ∷ some zero_page ∷ []
zero-data = ap data_pages two-zero-pages ∙ two-pages zero_page zero_page length-zero length-zero

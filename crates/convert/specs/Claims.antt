-- What is claimed of conversions (request 2 of document 02).
use Rattle.std.specs.Prelude.{◌≡◌, true, List, ◌↔◌, ℕ, ◌≤◌, ◌<◌, length}
use Rattle.std.proofs.Math.Option.{none}
use Rattle.page.specs.declared.Format.{Format}
use Rattle.page.specs.declared.Format.TheVariants.{Plain, Raw}
use Rattle.page.specs.Page.{is_some, page_at, pages_in}
use Rattle.page.specs.Twins.{CodesMatch, SameData, spare_byte}
use Rattle.model.specs.Check.{fault, ok}
use Rattle.layout.specs.Superblock.{good_length}
use Rattle.convert.specs.Converted.{converted, in_format, room_for}

-- ---- when an image is converted

abbrev pub AllReadable : Format → List ℕ → Type 0
AllReadable format image = (p : ℕ) → p < pages_in format (length image) → is_some (page_at format image p) ≡ true

pub record CanConvert (from to : Format) (image : List ℕ) (room : ℕ) : Type 0 where
  pub good : good_length from (length image) ≡ true
  pub long : room ≡ room_for from to image
  pub readable : AllReadable from image

-- Exactly where the length is a card's, the output as long as needed and every page readable.
abbrev pub ConvertedExactly : Type 0
ConvertedExactly = (from to : Format) (image : List ℕ) (room : ℕ) → (converted from to image room ≡ ok (in_format from to image)) ↔ CanConvert from to image room

-- No other image is ever the outcome.
abbrev pub ConvertedOne : Type 0
ConvertedOne = (from to : Format) (image : List ℕ) (room : ℕ) (result : List ℕ) → converted from to image room ≡ ok result → result ≡ in_format from to image

-- The page that goes with refusal 2 is the lowest that is unreadable.
pub record Lowest (format : Format) (image : List ℕ) (p : ℕ) : Type 0 where
  pub inside : p < pages_in format (length image)
  pub unreadable : page_at format image p ≡ none
  pub below : (q : ℕ) → q < p → is_some (page_at format image q) ≡ true

abbrev pub LowestNamed : Type 0
LowestNamed = (from to : Format) (image : List ℕ) (room p : ℕ) → converted from to image room ≡ fault 2 p → Lowest from image p

-- A plain image is never refused with 2.
abbrev pub PlainNever2 : Type 0
PlainNever2 = (to : Format) (image : List ℕ) (room p : ℕ) → ¬ (converted Plain to image room ≡ fault 2 p)

-- ---- what the image is

-- It has the data of the source.
abbrev pub SameDataConverted : Type 0
SameDataConverted = (from to : Format) (image : List ℕ) (room : ℕ) (result : List ℕ) → converted from to image room ≡ ok result → SameData from to image result

-- A raw one has codes that match, and spare bytes 12 to 15 of every page are zero.
pub record Fresh (raw : List ℕ) : Type 0 where
  pub codes : CodesMatch raw
  pub spare : (p j : ℕ) → 12 ≤ j → j < 16 → spare_byte raw p j ≡ 0

abbrev pub RawIsFresh : Type 0
RawIsFresh = (from : Format) (image : List ℕ) (room : ℕ) (raw : List ℕ) → converted from Raw image room ≡ ok raw → Fresh raw

-- ---- there and back

-- A plain image of a card's length goes to raw, and comes back with the same bytes.
pub record PlainBack (plain raw : List ℕ) : Type 0 where
  pub there : converted Plain Raw plain (length raw) ≡ ok raw
  pub back : converted Raw Plain raw (length plain) ≡ ok plain

abbrev pub PlainComesBack : Type 0
PlainComesBack = (plain : List ℕ) → good_length Plain (length plain) ≡ true → PlainBack plain (in_format Plain Raw plain)

-- A raw image that went to plain comes back with the same data, and with codes that match.
pub record RawBack (raw plain again : List ℕ) : Type 0 where
  pub back : converted Plain Raw plain (length raw) ≡ ok again
  pub same : SameData Raw Raw raw again
  pub codes : CodesMatch again

abbrev pub RawComesBack : Type 0
RawComesBack = (raw : List ℕ) (room : ℕ) (plain : List ℕ) → converted Raw Plain raw room ≡ ok plain → RawBack raw plain (in_format Plain Raw plain)

-- A raw image of a card's length whose codes all match goes to the plain image with its data, of which there is one.
pub record PlainTwin (raw plain : List ℕ) : Type 0 where
  pub there : converted Raw Plain raw (length plain) ≡ ok plain
  pub same : SameData Raw Plain raw plain
  pub one : (other : List ℕ) → SameData Raw Plain raw other → other ≡ plain

abbrev pub TwinConverted : Type 0
TwinConverted = (raw : List ℕ) → good_length Raw (length raw) ≡ true → CodesMatch raw → PlainTwin raw (in_format Raw Plain raw)

-- The loop's invariant: judging the names from i on, those before them seen, is judging them all.
use Rattle.std.proofs.Common.{◌≡◌, ℕ, ◌*◌, Bool, List, ◌++◌, true, false, sym, ◌∙◌, arith}
use Rattle.model.specs.Bytes.{word}
use Rattle.layout.specs.Table.{good_name}
use Rattle.layout.proofs.Names.{is_new, good_at, names-stop, names_more, names-done}
use Rattle.layout.proofs.table.Indirect.good_names.Goals as goal
use Rattle.layout.proofs.table.Indirect.good_names.Goals.{then-good_name, else-good_name}

module _ (f : ℕ → ℕ) (indirect offset : ℕ) (bad : List ℕ) (count i : ℕ) {name : ℕ} {good value : Bool} (named : name ≡ f i) (judged : good ≡ good_name offset bad name) where
  both : (new : Bool) → good ≡ true → new ≡ is_new f indirect name i → value ≡ new → good_at f indirect offset bad count i ≡ value
  both new g n v = rw (← named, ← judged, g, ← n, v)

  neither : good ≡ false → value ≡ good → good_at f indirect offset bad count i ≡ value
  neither g v = rw (← named, ← judged, v, g)

pub returns-then-not-is_new : goal.returns-then-not-is_new
returns-then-not-is_new c =
    let a = c.args in
    let s = a.s.now in
    let f : ℕ → ℕ = λ j. word (a.self.now.first ++ a.self.now.second) (4 * j) in
    let test : good_at f s.indirect s.geometry.offset s.bad a.count c.loop-i.i ≡ c.if-good_name.value =
    elim c.if-good_name.branch [
      | then-good_name w ↦ both f s.indirect s.geometry.offset s.bad a.count c.loop-i.i c.name_at-name.ensures c.good_name.ensures w.is_new.result w.if-good_name.true w.is_new.ensures w.value-is
      | else-good_name w ↦ neither f s.indirect s.geometry.offset s.bad a.count c.loop-i.i c.name_at-name.ensures c.good_name.ensures w.if-good_name.false w.value-is
    ] in sym (c.loop-i.invariant ∙ names-stop f s.indirect s.geometry.offset s.bad a.count c.loop-i.i c.loop-i-test.true (test ∙ c.if-not-is_new.true))

pub loop-i-preserved : goal.loop-i-preserved
loop-i-preserved c =
    let a = c.args in
    let s = a.s.now in
    let f : ℕ → ℕ = λ j. word (a.self.now.first ++ a.self.now.second) (4 * j) in
    let test : good_at f s.indirect s.geometry.offset s.bad a.count c.loop-i.i ≡ c.if-good_name.value =
    elim c.if-good_name.branch [
      | then-good_name w ↦ both f s.indirect s.geometry.offset s.bad a.count c.loop-i.i c.name_at-name.ensures c.good_name.ensures w.is_new.result w.if-good_name.true w.is_new.ensures w.value-is
      | else-good_name w ↦ neither f s.indirect s.geometry.offset s.bad a.count c.loop-i.i c.name_at-name.ensures c.good_name.ensures w.if-good_name.false w.value-is
    ] in c.loop-i.invariant ∙ names_more f s.indirect s.geometry.offset s.bad a.count c.loop-i.i c.loop-i-test.true (test ∙ c.if-not-is_new.false)

pub returns : goal.returns
returns c =
    let a = c.args in
    let s = a.s.now in
    let f : ℕ → ℕ = λ j. word (a.self.now.first ++ a.self.now.second) (4 * j) in
    sym (c.loop-i.invariant ∙ names-done f s.indirect s.geometry.offset s.bad a.count c.loop-i.i (omega arith))

-- The walk of a directory's inside: the model's walk, slot by slot.
use Rattle.std.proofs.Common.{◌≡◌, ◌+◌, ◌-◌, sym, ap, ◌∙◌, refl, inl, inr, arith}
use Rattle.std.proofs.lemmas.Result.{err_from_is_err_and}
use Rattle.std.specs.Prelude.{Ok}
use Rattle.reached.specs.Marks.{marks_of}
use Rattle.reached.proofs.NearLaws.{near-joined}
use Rattle.tree.specs.Card.{view_of}
use Rattle.tree.specs.Mended.{mended_page}
use Rattle.tree.specs.Met.{Grows, Knows}
use Rattle.tree.specs.Walk.{Tells, entered_look}
use Rattle.tree.proofs.MetLaws.{grows_self, knows-none, knows_on}
use Rattle.tree.proofs.ScanLaws.{cluster-start, cluster-step}
use Rattle.tree.proofs.TaskLaws.{task-idle, task-led, task-refused}
use Rattle.tree.proofs.TellLaws.{inside-go, inside-stop, slot-go, slot-stop, slots-done}
use Rattle.tree.proofs.walk.+walk_dir.Goals as goal
use Rattle.tree.proofs.walk.+walk_dir.Goals.{in-Some+else-not-sound+in-Some-inside+in-Ok, then-near-gt0, else-near-gt0, in-Some+else-not-sound+in_default-inside, in_default}

pub returns-in_err-judge_dots-clause-tells : goal.returns-in_err-judge_dots-clause-tells
returns-in_err-judge_dots-clause-tells t c =
    let a = c.args in
    let card = a.card.now in
    let p = err_from_is_err_and c.from_residual.result c.from_residual.ensures.1 in
    rw (p.1, p.2) (inside-stop (view_of card) (mended_page card.geometry card.image.now) card.geometry a.below card.table.now a.first a.entries (marks_of a.reached) a.mended.now _ _ c.in_err-judge_dots.ensures.judged)

pub loop-k-init : goal.loop-k-init
loop-k-init t c =
    let a = c.args in
    let all : a.entries - 2 - 0 ≡ a.entries - 2 = omega arith in
    (rw all, c.requires.1, cluster-start _ _, knows-none (view_of a.card.now) a.card.now.table.now a.first c.next_of-start.result a.cells.now c.requires.2, grows_self _)

-- a slot whose page is unreadable
pub returns-in_err-kind-clause-tells : goal.returns-in_err-kind-clause-tells
returns-in_err-kind-clause-tells t c =
    let a = c.args in
    let card = a.card.now in
    let v = view_of card in
    let mend = mended_page card.geometry card.image.now in
    let w = c.loop-k in
    let p = err_from_is_err_and c.from_residual-in_err-kind.result c.from_residual-in_err-kind.ensures.1 in
    let whole = inside-go v mend card.geometry a.below card.table.now a.first a.entries (marks_of a.reached) a.mended.now c.in_ok-judge_dots.ensures.judged _ c.in_ok-judge_dots.ensures.counted _ (a.entries - 2) c.next_of-start.ensures refl ∙ w.invariant.0 in
    rw (p.1, p.2) (slot-stop v mend card.geometry a.below card.table.now (λ n. refl) c.next_of-start.result w.c w.k (a.entries - 2 - w.k) _ w.r w.mended whole (omega (arith, c.slots_of-k-end.ensures)) w.invariant.2 _ c.in_err-kind.ensures.value c.look_at.new.mended tt _ c.look_at.new.mended _ (refl, refl))

-- a slot that is refused before its chain
pub returns-in_err-task-clause-tells : goal.returns-in_err-task-clause-tells
returns-in_err-task-clause-tells t c =
    let a = c.args in
    let card = a.card.now in
    let v = view_of card in
    let mend = mended_page card.geometry card.image.now in
    let w = c.loop-k in
    let p = err_from_is_err_and c.from_residual-in_err-task.result c.from_residual-in_err-task.ensures.1 in
    let whole = inside-go v mend card.geometry a.below card.table.now a.first a.entries (marks_of a.reached) a.mended.now c.in_ok-judge_dots.ensures.judged _ c.in_ok-judge_dots.ensures.counted _ (a.entries - 2) c.next_of-start.ensures refl ∙ w.invariant.0 in
    let refused = task-refused card.table.now c.requires.0 v mend (λ n. refl) card.geometry a.below w.r w.invariant.1 c.look_at.new.mended c.in_ok-kind.kind c.in_err-task.field-0.0 (sym c.in_err-task.ensures) in
    rw (p.1, p.2) (slot-stop v mend card.geometry a.below card.table.now (λ n. refl) c.next_of-start.result w.c w.k (a.entries - 2 - w.k) _ w.r w.mended whole (omega (arith, c.slots_of-k-end.ensures)) w.invariant.2 _ c.in_ok-kind.ensures.value c.look_at.new.mended c.in_ok-kind.ensures.look_adds _ _ _ refused)

-- a chain that is not sound
pub returns-then-not-sound-clause-tells : goal.returns-then-not-sound-clause-tells
returns-then-not-sound-clause-tells t c =
    let a = c.args in
    let card = a.card.now in
    let v = view_of card in
    let mend = mended_page card.geometry card.image.now in
    let w = c.loop-k in
    let joined = c.if-near-gt0 in
    let whole = inside-go v mend card.geometry a.below card.table.now a.first a.entries (marks_of a.reached) a.mended.now c.in_ok-judge_dots.ensures.judged _ c.in_ok-judge_dots.ensures.counted _ (a.entries - 2) c.next_of-start.ensures refl ∙ w.invariant.0 in
    let chain = near-joined card.table.now w.r c.in-Some.task.first c.in-Some.task.clusters w.invariant.1.at c.walk_near-near.result c.walk_near-near.ensures joined.r joined.sound
    (elim joined.branch [
      | then-near-gt0 y ↦ inl (y.walk_chain-far.result, y.if-near-gt0.true, y.walk_chain-far.ensures, y.r-is, y.sound-is)
      | else-near-gt0 y ↦ inr (y.if-near-gt0.false, y.r-is, y.sound-is)
    ]) in
    let led = task-led card.table.now c.requires.0 v mend (λ n. refl) card.geometry a.below w.r w.invariant.1 c.look_at.new.mended (record { sound = joined.sound; reached = joined.r }) c.in-Some.task chain c.in_ok-kind.kind (sym c.in_ok-task.ensures ∙ ap Ok c.in-Some.is) in
    slot-stop v mend card.geometry a.below card.table.now (λ n. refl) c.next_of-start.result w.c w.k (a.entries - 2 - w.k) _ w.r w.mended whole (omega (arith, c.slots_of-k-end.ensures)) w.invariant.2 _ c.in_ok-kind.ensures.value c.look_at.new.mended c.in_ok-kind.ensures.look_adds _ _ _ (led.broken c.if-not-sound.true)

-- a directory that is entered: another level is left below, and its chain keeps the record sound
pub walk_dir-requires : goal.walk_dir-requires
walk_dir-requires t c =
    let a = c.args in
    let card = a.card.now in
    let v = view_of card in
    let mend = mended_page card.geometry card.image.now in
    let w = c.loop-k in
    let joined = c.if-near-gt0 in
    let chain = near-joined card.table.now w.r c.in-Some.task.first c.in-Some.task.clusters w.invariant.1.at c.walk_near-near.result c.walk_near-near.ensures joined.r joined.sound
    (elim joined.branch [
      | then-near-gt0 y ↦ inl (y.walk_chain-far.result, y.if-near-gt0.true, y.walk_chain-far.ensures, y.r-is, y.sound-is)
      | else-near-gt0 y ↦ inr (y.if-near-gt0.false, y.r-is, y.sound-is)
    ]) in
    let led = task-led card.table.now c.requires.0 v mend (λ n. refl) card.geometry a.below w.r w.invariant.1 c.look_at.new.mended (record { sound = joined.sound; reached = joined.r }) c.in-Some.task chain c.in_ok-kind.kind (sym c.in_ok-task.ensures ∙ ap Ok c.in-Some.is) in
    let go = led.inside c.if-not-sound.false c.in-Some-inside.inside c.in-Some-inside.is in
    let filled = (knows_on v card.table.now a.first _ _ _ _ _ _ w.invariant.4 c.look_at.ensures.knows (grows_self _)).1 in
    (omega (arith, go.0, c.decreases), (c.requires.0, go.1, filled.room ∙ c.requires.2))

-- a directory whose inside is refused
pub returns-in-Err-clause-tells : goal.returns-in-Err-clause-tells
returns-in-Err-clause-tells t c =
    let a = c.args in
    let card = a.card.now in
    let v = view_of card in
    let mend = mended_page card.geometry card.image.now in
    let w = c.loop-k in
    let joined = c.if-near-gt0 in
    let whole = inside-go v mend card.geometry a.below card.table.now a.first a.entries (marks_of a.reached) a.mended.now c.in_ok-judge_dots.ensures.judged _ c.in_ok-judge_dots.ensures.counted _ (a.entries - 2) c.next_of-start.ensures refl ∙ w.invariant.0 in
    let chain = near-joined card.table.now w.r c.in-Some.task.first c.in-Some.task.clusters w.invariant.1.at c.walk_near-near.result c.walk_near-near.ensures joined.r joined.sound
    (elim joined.branch [
      | then-near-gt0 y ↦ inl (y.walk_chain-far.result, y.if-near-gt0.true, y.walk_chain-far.ensures, y.r-is, y.sound-is)
      | else-near-gt0 y ↦ inr (y.if-near-gt0.false, y.r-is, y.sound-is)
    ]) in
    let led = task-led card.table.now c.requires.0 v mend (λ n. refl) card.geometry a.below w.r w.invariant.1 c.look_at.new.mended (record { sound = joined.sound; reached = joined.r }) c.in-Some.task chain c.in_ok-kind.kind (sym c.in_ok-task.ensures ∙ ap Ok c.in-Some.is) in
    let go = led.inside c.if-not-sound.false c.in-Some-inside.inside c.in-Some-inside.is in
    slot-stop v mend card.geometry a.below card.table.now (λ n. refl) c.next_of-start.result w.c w.k (a.entries - 2 - w.k) _ w.r w.mended whole (omega (arith, c.slots_of-k-end.ensures)) w.invariant.2 _ c.in_ok-kind.ensures.value c.look_at.new.mended c.in_ok-kind.ensures.look_adds _ _ _ (go.2 _ _ c.in-Err.ensures.tells)

pub loop-k-preserved : goal.loop-k-preserved
loop-k-preserved t c =
    let a = c.args in
    let card = a.card.now in
    let g = card.geometry in
    let tb = card.table.now in
    let v = view_of card in
    let mend = mended_page g card.image.now in
    let w = c.loop-k in
    let count = c.look_at.new.mended in
    let kind = c.in_ok-kind.kind in
    let joined = c.match-branch-4 in
    let told : Tells (entered_look v mend g a.below tb (marks_of w.r) count kind) (Ok joined.r) joined.mended =
    elim joined.branch [
      | in-Some+else-not-sound+in-Some-inside+in-Ok z ↦
          let chain = near-joined tb w.r z.in-Some.task.first z.in-Some.task.clusters w.invariant.1.at z.walk_near-near.result z.walk_near-near.ensures z.if-near-gt0.r z.if-near-gt0.sound
          (elim z.if-near-gt0.branch [
            | then-near-gt0 y ↦ inl (y.walk_chain-far.result, y.if-near-gt0.true, y.walk_chain-far.ensures, y.r-is, y.sound-is)
            | else-near-gt0 y ↦ inr (y.if-near-gt0.false, y.r-is, y.sound-is)
          ]) in
          let led = task-led tb c.requires.0 v mend (λ n. refl) g a.below w.r w.invariant.1 count (record { sound = z.if-near-gt0.sound; reached = z.if-near-gt0.r }) z.in-Some.task chain kind (sym c.in_ok-task.ensures ∙ ap Ok z.in-Some.is) in
          rw (z.mended-is, z.r-is) ((led.inside z.if-not-sound.false z.in-Some-inside.inside z.in-Some-inside.is).2 _ _ z.in-Ok.ensures.tells)
      | in-Some+else-not-sound+in_default-inside z ↦
          let chain = near-joined tb w.r z.in-Some.task.first z.in-Some.task.clusters w.invariant.1.at z.walk_near-near.result z.walk_near-near.ensures z.if-near-gt0.r z.if-near-gt0.sound
          (elim z.if-near-gt0.branch [
            | then-near-gt0 y ↦ inl (y.walk_chain-far.result, y.if-near-gt0.true, y.walk_chain-far.ensures, y.r-is, y.sound-is)
            | else-near-gt0 y ↦ inr (y.if-near-gt0.false, y.r-is, y.sound-is)
          ]) in
          let led = task-led tb c.requires.0 v mend (λ n. refl) g a.below w.r w.invariant.1 count (record { sound = z.if-near-gt0.sound; reached = z.if-near-gt0.r }) z.in-Some.task chain kind (sym c.in_ok-task.ensures ∙ ap Ok z.in-Some.is) in
          rw (z.mended-is, z.r-is) (led.file z.if-not-sound.false z.in_default-inside.is)
      | in_default z ↦ rw (z.mended-is, z.r-is) (task-idle tb c.requires.0 v mend (λ n. refl) g a.below w.r w.invariant.1 count kind (sym c.in_ok-task.ensures ∙ ap Ok z.in_default.is))
    ] in
    let cells : Knows v tb a.first c.next_of-start.result (w.k + 1) joined.cells × Grows a.cells.now joined.cells =
    elim joined.branch [
      | in-Some+else-not-sound+in-Some-inside+in-Ok z ↦
          rw z.cells-is (knows_on v tb a.first _ _ _ _ _ _ w.invariant.4 c.look_at.ensures.knows z.walk_dir.ensures.grows)
      | in-Some+else-not-sound+in_default-inside z ↦ rw z.cells-is (knows_on v tb a.first _ _ _ _ _ _ w.invariant.4 c.look_at.ensures.knows (grows_self _))
      | in_default z ↦ rw z.cells-is (knows_on v tb a.first _ _ _ _ _ _ w.invariant.4 c.look_at.ensures.knows (grows_self _))
    ] in
    let less : a.entries - 2 - (w.k + 1) ≡ a.entries - 2 - w.k - 1 = omega arith in
    let on = slot-go v mend g a.below tb (λ n. refl) c.next_of-start.result w.c w.k (a.entries - 2 - w.k) _ w.r w.mended w.invariant.0 (omega (arith, c.slots_of-k-end.ensures)) w.invariant.2 _ c.in_ok-kind.ensures.value count c.in_ok-kind.ensures.look_adds joined.r joined.mended told in
    (rw (c.cluster_after-c.ensures, less) on.0, on.1, cluster-step tb c.next_of-start.result w.c w.k _ w.invariant.2 c.cluster_after-c.ensures, cells.0, cells.1)

pub returns-clause-tells : goal.returns-clause-tells
returns-clause-tells t c =
    let a = c.args in
    let card = a.card.now in
    let v = view_of card in
    let mend = mended_page card.geometry card.image.now in
    let w = c.loop-k in
    let whole = inside-go v mend card.geometry a.below card.table.now a.first a.entries (marks_of a.reached) a.mended.now c.in_ok-judge_dots.ensures.judged _ c.in_ok-judge_dots.ensures.counted _ (a.entries - 2) c.next_of-start.ensures refl ∙ w.invariant.0 in
    slots-done v mend card.geometry a.below card.table.now c.next_of-start.result w.c w.k (a.entries - 2 - w.k) _ w.r w.mended whole (omega (arith, c.slots_of-k-end.ensures)) w.invariant.1

-- the futures of a cell that have its turn hold the permit, or were granted it
use Rattle.std.proofs.Common.{◌≡◌, ℕ, ◌+◌, ◌==◌, ◌&&◌, Bool, true, false, not, cond, Option, Some, None, refl, ap, sym, subst, ◌∙◌, arith}
use Rattle.std.specs.FinMap.{get, len}
use Rattle.std.proofs.lemmas.Bool.{eqb-true}
use Rattle.mea_base.proofs.Maps.{inside}
use Rattle.mea_by_name.specs.declared.named_waker.NamedWaker.{NamedWaker}
use Rattle.mea_by_name.specs.ByName.{Names, seen}
use Rattle.mea_by_name.specs.NamedQueue.{waits, waker_for}
use Rattle.mea_by_name.proofs.Own.{seen-back}
use Rattle.mea_sem_core.specs.Core.{held_of}
use Rattle.mea_cores_by_name.proofs.Linking.{unqueued_waits}
use Rattle.mea_cores_by_name.proofs.Granted.{one_if_granted, one_unless, granted_seen}
use Rattle.mea_once_core.specs.declared.cell_stage.CellStage.{CellStage}
use Rattle.mea_once_core.specs.declared.cell_stage.CellStage.TheVariants.{New, Queued, Running, Done}
use Rattle.mea_once_model.specs.Cells.{CellFuture, is_alone}
use Rattle.mea_once_model.specs.Valid.{has_turn}
use Rattle.mea_once.specs.declared.future_entry.FutureEntry.{FutureEntry}
use Rattle.mea_once.specs.Entries.{KeptCell}
use Rattle.mea_once.specs.Lends.{turns_in}
use Rattle.mea_once.specs.Parts.{is_polled, runner_of, cell_seen, future_seen, is_caller, acquire_at, acquire_of, runs_at, is_running, StageFits, AreKept}
use Rattle.mea_once.proofs.Permits.{shares}
use Rattle.mea_once.proofs.OneCell.{no_debts, fits_any, running_held, unqueued}

module _ (once : Bool) (e : KeptCell) (fs : Names FutureEntry) (kept : AreKept once e fs) where
  -- a future at a stage: one that has a number was granted the permit where it does not wait, and one that computes holds it
  turn_at : (f : ℕ) (x : FutureEntry) → get fs f ≡ Some x → (s : CellStage) → x.stage ≡ s
      → ◌≡◌ {A = ℕ} (cond (is_polled s && not (waits (cell_seen e).queue f)) 1 0) (one_if_granted e.cell.permit.queue f (acquire_at s) + cond (runs_at s) 1 0)
  turn_at f x there New is = refl
  turn_at f x there (Queued n) is = omega arith
  turn_at f x there Running is =
      ap one_unless (unqueued_waits e.cell.permit.queue e.cell.permit.granted (seen acquire_of fs) kept.tied.linked f (unqueued once e fs kept.tied f x there Running is (λ n other. absurd (cc))) (no_debts e.cell.permit.queue kept.sound.permit.asks))
  turn_at f x there Done is = absurd (subst (StageFits true) is (fits_any (is_caller x.errand) x.stage (kept.tied.each f x there).stage))

  pub turns_granted : turns_in (cell_seen e) (seen future_seen fs) ≡ len e.cell.permit.granted + held_of e.cell.permit
  turns_granted = granted_seen e.cell.permit.queue e.cell.permit.granted acquire_of future_seen fs (λ f (x : CellFuture). cond (has_turn (cell_seen e) f x) 1 0) (λ (x : FutureEntry). cond (is_running x) 1 0)
      (no_debts e.cell.permit.queue kept.sound.permit.asks) kept.sound.permit.granted_apart kept.tied.linked (λ f x there. turn_at f x there x.stage refl)
      ∙ ap (λ (n : ℕ). len e.cell.permit.granted + n) (sym kept.tied.held)

  -- whose initialiser keeps a waker holds the permit, unless it uses the cell alone
  pub keeper_holds : (r : Option NamedWaker) → e.running ≡ r → (f w : ℕ) (y : CellFuture) → waker_for (runner_of r) f ≡ Some w → get (seen future_seen fs) f ≡ Some y → is_alone y.errand ≡ false → held_of e.cell.permit ≡ 1
  keeper_holds None is f w y keeps there shared = absurd (cc)
  keeper_holds (Some k) is f w y keeps there shared = at (k.name == f) refl keeps
    where
      at : (b : Bool) → (k.name == f) ≡ b → cond b (Some k.waker) None ≡ Some w → held_of e.cell.permit ≡ 1
      at true same it =
          let x = kept.tied.runner k is in
          let here : get fs f ≡ Some x.0 = ap (get fs) (sym (eqb-true k.name f same)) ∙ x.1 in
          let one = seen-back future_seen fs f y there in
          let mine : x.0 ≡ one.0 = inside (sym here ∙ one.1) in
          let alone : is_alone x.0.errand ≡ false = ap (λ (z : FutureEntry). is_alone z.errand) mine ∙ ap (λ (z : CellFuture). is_alone z.errand) one.2 ∙ shared in
          let runs : is_running x.0 ≡ true = sym (ap (λ b. cond b true (is_running x.0)) alone) ∙ x.2 in
          omega (arith, running_held once e fs kept.tied f x.0 here runs, shares e.cell.permit kept.sound.permit)
      at false other it = absurd (cc)

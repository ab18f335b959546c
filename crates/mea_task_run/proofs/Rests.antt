-- the machine that a text tells of is at rest
use Rattle.std.proofs.Common.{◌≡◌, ℕ, ◌+◌, ◌^◌, ◌≤◌, ◌==◌, Bool, true, false, cond, if◌then◌else◌, List, [], ◌∷◌, Option, Some, None, refl, subst, arith, length, take, nat_lt, length-take}
use Rattle.std.specs.List.{slice_split}
use Rattle.std.proofs.lemmas.List.Splits.{length-slice_split}
use Rattle.std.proofs.lemmas.List.Sums.{count_by-le-length}
use Rattle.std.proofs.lemmas.Option.{option_and_then_some}
use Rattle.mea_text.proofs.Readings.{some_same}
use Rattle.mea_script.specs.declared.status.Status.TheVariants.{Done}
use Rattle.mea_script.specs.Lines.{limit, is_long, lines_of, last_line, lines_among}
use Rattle.mea_script.specs.Rules.{event_at}
use Rattle.mea_script.specs.Told.{told_line, told_from, told_by}
use Rattle.mea_task_core.specs.declared.step.Step.{Step as TaskStep}
use Rattle.mea_task_core.specs.Machine.{Machine}
use Rattle.mea_task_core.specs.Bounds.{work}
use Rattle.mea_task_core.specs.Settled.{run_out}
use Rattle.mea_task_core.specs.Sound.{IsSound}
use Rattle.mea_task_core.proofs.Adds.{sound_with_semaphore, sound_with_task}
use Rattle.mea_task_core.proofs.Ends.{sound_new, run_out_rests, settled, few_polls}
use Rattle.mea_task_core.proofs.Moves.{sound_moves}
use Rattle.mea_task_run.specs.declared.event.TaskEvent.{TaskEvent}
use Rattle.mea_task_run.specs.declared.event.TaskEvent.TheVariants.{Sem, Task, Step}
use Rattle.mea_task_run.specs.Lines.{event_of}
use Rattle.mea_task_run.specs.Machine.{Program, new_program, admits, event_in, after, with_latest, whole, size_of, AreKnown, StandsAt, task_rules, tasks_of}
use Rattle.mea_task_run.specs.Rests.{TellsRest}
use Rattle.mea_task_run.specs.Spelling.{Fits}
use Rattle.mea_task_run.proofs.Known.{none_unknown}
use Rattle.mea_task_run.proofs.Spellings.{spelling_only}
use Rattle.mea_task_run.proofs.Standing.{event_admitted, stands_after}

-- ---- a program stays sound
sound_latest : (m : Machine) (latest : Option (List TaskStep)) → IsSound m → AreKnown (length m.semaphores) latest → m.added + size_of latest ≤ 2 ^ 60 → IsSound (with_latest m latest)
sound_latest m None s known few = s
sound_latest m (Some steps) s known few = sound_with_task m steps s (record { known = none_unknown m steps known; few = few })

sound_after : (p : Program) (n : ℕ) (e : TaskEvent) → IsSound p.machine → StandsAt p n → n ≤ 2 ^ 25 → Fits e → IsSound (after p e).machine
sound_after p n (Sem permits) s stands few fits = sound_with_semaphore p.machine permits s fits.0 (let events = stands.events in omega (arith, events, few))
sound_after p n Task s stands few fits = sound_latest p.machine p.latest s stands.known (let added = stands.added in omega (arith, added, few))
sound_after p n (Step step) s stands few fits = s

-- ---- the events of lines
fits_only : (p : Program) (line : List ℕ) (e : TaskEvent) → event_in p line ≡ Some e → Fits e
fits_only p line e is = option_and_then_some (λ k. if admits p k then Some k else None) (event_of line) e is (λ k read made. by_test k (admits p k) read made)
  where
    by_test : (k : TaskEvent) (b : Bool) → event_of line ≡ Some k → (if b then Some k else None) ≡ Some e → Fits e
    by_test k true read made = subst Fits (some_same k e made) (spelling_only line k read).1
    by_test k false read made = absurd (cc)

event_only : (p : Program) (line : List ℕ) (e : TaskEvent) → event_at task_rules p line ≡ Some e → event_in p line ≡ Some e
unfolding task_rules
event_only p line e is = by_test (nat_lt 96 (length line)) is
  where
    by_test : (b : Bool) → (if b then None else event_in p line) ≡ Some e → event_in p line ≡ Some e
    by_test true is = absurd (cc)
    by_test false is = is

-- ---- and comes to rest
rests_whole : (p : Program) (n k : ℕ) → IsSound p.machine → StandsAt p n → n ≤ 2 ^ 25 → TellsRest (told_from task_rules false p k [])
unfolding task_rules
rests_whole p n k s stands few =
    let sound = sound_latest p.machine p.latest s stands.known (let added = stands.added in omega (arith, added, few)) in
    let after_all = sound_moves (work (whole p)) (whole p) sound in
    let rest = run_out_rests (whole p) sound in
    record {
      machine = run_out (whole p);
      lines = k;
      text = refl;
      rest = rest;
      settled = settled (run_out (whole p)) after_all rest;
      few = few_polls (run_out (whole p)) after_all;
    }

rests_from : (lines : List (List ℕ)) (long : Bool) (p : Program) (n : ℕ) → IsSound p.machine → StandsAt p n → n + length lines ≤ 2 ^ 25
    → (told_from task_rules long p n lines).status ≡ Done → TellsRest (told_from task_rules long p n lines)
unfolding task_rules
rests_from [] true p n s stands few done = absurd (cc)
rests_from [] false p n s stands few done = rests_whole p n n s stands (omega (arith, few))
rests_from (line ∷ lines) long p n s stands few done =
    by_event (event_at task_rules p line) refl done (λ e event ended.
    let long_by_one : length (line ∷ lines) ≡ length lines + 1 = omega arith in
    rests_from lines long (after p e) (n + 1) (sound_after p n e s stands (omega (arith, few)) (fits_only p line e event))
    (stands_after p n e stands (event_admitted p e (line, event))) (omega (arith, few, long_by_one)) ended)
  where
    by_event : (o : Option TaskEvent) → event_at task_rules p line ≡ o → (told_line task_rules p n o (λ a. told_from task_rules long a (n + 1) lines)).status ≡ Done
        → ((e : TaskEvent) → event_in p line ≡ Some e → (told_from task_rules long (after p e) (n + 1) lines).status ≡ Done → TellsRest (told_from task_rules long (after p e) (n + 1) lines))
        → TellsRest (told_line task_rules p n o (λ a. told_from task_rules long a (n + 1) lines))
    by_event None is ended next = absurd (cc)
    by_event (Some e) is ended next = next e (event_only p line e is) ended

-- ---- a script has few lines
last_one : (cut : Bool) (piece : List ℕ) → length (last_line cut piece) ≤ 1
last_one true piece = omega arith
last_one false piece = by_test (length piece == 0)
  where
    by_test : (b : Bool) → length (cond b [] (piece ∷ [])) ≤ 1
    by_test true = omega arith
    by_test false = omega arith

as_many : (cut : Bool) (pieces : List (List ℕ)) → length (lines_among cut pieces) ≤ length pieces
as_many cut [] = omega arith
as_many cut (piece ∷ []) = last_one cut piece
as_many cut (piece ∷ next ∷ pieces) = let rest = as_many cut (next ∷ pieces) in omega (arith, rest)

few_lines : (script : List ℕ) → length (lines_of script) ≤ 2 ^ 25
few_lines script =
    let pieces = slice_split (λ b. b == 10) (take limit script) in
    omega (arith, as_many (is_long script) pieces, length-slice_split (λ b. b == 10) (take limit script), count_by-le-length (λ b. b == 10) (take limit script), length-take limit script)

pub tasks_rest : (script : List ℕ) → (tasks_of script).status ≡ Done → TellsRest (tasks_of script)
unfolding told_by
tasks_rest script done =
    rests_from (lines_of script) (is_long script) new_program 0 sound_new (record { events = omega arith; semaphores = omega arith; added = omega arith; known = tt })
    (let few = few_lines script in omega (arith, few)) done

-- a write of one entry
use Rattle.std.proofs.Common.{◌≡◌, ℕ, suc, zero, ◌+◌, ◌++◌, ◌<◌, List, [], ◌∷◌, length, Option, Some, None, Result, Ok, Err, IfOk, OnErr, IsSome, IfSome, slice_index_or, slice_set, refl, sym, subst, arith}
use Rattle.std.proofs.lemmas.List.{get_or-set_same, get_or-set_other}
use Rattle.mea_base.specs.declared.no_memory.NoMemory.{NoMemory}
use Rattle.mea_sets.specs.Poll.{Poll, Ready}
use Rattle.mea_base.specs.Outbox.{Wakes}
use Rattle.mea_once_core.specs.Cell.{Cell, rested, PollsInit, Ends, queues_more, AddAtMost}
use Rattle.mea_once_core.specs.Slots.{SetsSlot, PollsSlot, EndsSlot, RestsSlot}
use Rattle.std.specs.Option.{option_map}
use Rattle.mea_once_core.specs.Links.{shown, shown_at}
use Rattle.mea_once_core.specs.declared.entry.Entry.{Entry}
use Rattle.mea_once_core.specs.declared.init_call.InitCall.{InitCall}
use Rattle.mea_once_core.specs.declared.cell_stage.CellStage.{CellStage}

within : {A : Type 0} (xs : List (Option A)) (n : ℕ) (e : A) → slice_index_or xs n None ≡ Some e → n < length xs
within [] n e is = absurd (cc)
within (x ∷ xs) zero e is = omega arith
within (x ∷ xs) (suc n) e is = omega (arith, within xs n e is)

pub some_weaker : {A : Type 0} (o : Option A) (P Q : A → Type 0) → ((x : A) → P x → Q x) → IfSome o P → IfSome o Q
some_weaker None P Q f h = h
some_weaker (Some x) P Q f h = f x h

module _ {V W : Type 0} where
  pub sets-slot : (xs : List (Option (Entry V W))) (n : ℕ) (e f : Entry V W) → slice_index_or xs n None ≡ Some e → SetsSlot xs (slice_set xs n (Some f)) n (Some f)
  sets-slot xs n e f is = record {
    changed = get_or-set_same xs n (Some f) None (within xs n e is);
    others = λ m differs. get_or-set_other xs n m (Some f) None differs;
  }

  pub ended-slot : (xs : List (Option (Entry V W))) (n : ℕ) (f : Entry V W) (stage : CellStage) (c : Cell V W) → slice_index_or xs n None ≡ Some f → Ends f.cell stage c → AddAtMost 0 f.cell c
      → IfSome (slice_index_or xs n None) (λ e. EndsSlot xs n e stage (slice_set xs n (Some (record f { cell = c }))))
  ended-slot xs n f stage c is ended few =
      subst (λ (o : Option (Entry V W)). IfSome o (λ e. EndsSlot xs n e stage (slice_set xs n (Some (record f { cell = c }))))) (sym is)
      (record { cell = c; ends = ended; few = few; sets = sets-slot xs n f (record f { cell = c }) is })

  pub rested-slot : (xs : List (Option (Entry V W))) (n : ℕ) (f : Entry V W) (out out' : Wakes W) (c : Cell V W) → slice_index_or xs n None ≡ Some f → c ≡ rested f.cell
      → out'.wakers ≡ out.wakers ++ f.cell.permit.wakes → out'.spare + length f.cell.permit.wakes ≡ out.spare
      → IfSome (slice_index_or xs n None) (λ e. RestsSlot xs n e out out' (slice_set xs n (Some (record f { cell = c }))))
  rested-slot xs n f out out' c is rests wakers spare =
      subst (λ (o : Option (Entry V W)). IfSome o (λ e. RestsSlot xs n e out out' (slice_set xs n (Some (record f { cell = c }))))) (sym is)
      (subst (λ (d : Cell V W). RestsSlot xs n f out out' (slice_set xs n (Some (record f { cell = d })))) (sym rests)
      (record { sets = sets-slot xs n f (record f { cell = rested f.cell }) is; wakers = wakers; spare = spare }))

  -- what was lent is the entry's cell
  pub cell-shown : (xs : List (Option (Entry V W))) (n : ℕ) (f : Entry V W) → slice_index_or xs n None ≡ Some f → IfSome (shown_at xs n) (λ e. f.cell ≡ e.cell)
  cell-shown xs n f is = subst (λ (o : Option (Entry V W)). IfSome (option_map shown o) (λ e. f.cell ≡ e.cell)) (sym is) refl

on-err-first : {A B : Type 0} (P Q : Type 0) (r : Result A B) → OnErr r (P × Q) → OnErr r P
on-err-first P Q (Ok x) h = h
on-err-first P Q (Err e) h = h.0

module _ {V E W I : Type 0} (answers : I → W → Poll (Result V E) → I → Type 0) where
  pub polled-slot : (xs : List (Option (Entry V W))) (n : ℕ) (f : Entry V W) (call call' : InitCall I) (w : W) (r : Result (Poll (Result (Unit {0}) E)) (W × NoMemory)) (c : Cell V W)
      → slice_index_or xs n None ≡ Some f → PollsInit answers f.cell call w r c call' → AddAtMost (queues_more f.cell call.stage) f.cell c
      → OnErr r ((c ≡ f.cell) × (call' ≡ call)) → OnErr r (queues_more f.cell call.stage ≡ 1) → IfOk r (λ poll. poll ≡ Ready (Ok tt) → IsSome c.value)
      → IfSome (slice_index_or xs n None) (λ e. PollsSlot answers xs n e call w r (slice_set xs n (Some (record f { cell = c }))) call')
  polled-slot xs n f call call' w r c is polled few stays no_memory fills =
      subst (λ (o : Option (Entry V W)). IfSome o (λ e. PollsSlot answers xs n e call w r (slice_set xs n (Some (record f { cell = c }))) call')) (sym is)
      (record { cell = c; polls = polled; few = few; stays = on-err-first (c ≡ f.cell) (call' ≡ call) r stays; no_memory = no_memory; fills = fills; sets = sets-slot xs n f (record f { cell = c }) is })

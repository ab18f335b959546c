-- what a poll of a call by key does to the core: to one entry, to the number of one key, and to the wakers that are ready
use Rattle.std.proofs.Common.{◌≡◌, ℕ, ◌+◌, ◌==◌, ◌++◌, ◌&&◌, ◌⊎◌, inl, inr, Bool, true, false, not, cond, List, [], Option, Some, None, is_none, MatchOption, Result, Ok, Err, nat_eq, refl, ap, sym, subst, ◌∙◌, append-nil}
use Rattle.std.specs.Option.{IsSome}
use Rattle.std.proofs.lemmas.Bool.{eqb-true, eq-eqb}
use Rattle.std.proofs.lemmas.List.{append_assoc}
use Rattle.mea_sets.specs.Poll.{Poll, Ready, Pending}
use Rattle.mea_base.specs.declared.no_memory.NoMemory.{NoMemory}
use Rattle.mea_base.proofs.Maps.{inside, value_in}
use Rattle.mea_by_name.specs.declared.named_waker.NamedWaker.{NamedWaker}
use Rattle.mea_once_core.specs.Permit.{MayPoll}
use Rattle.mea_once_core.specs.Cell.{Cell as CoreCell, PollsInit, Finds, rested}
use Rattle.mea_once_core.specs.Links.{Shown, Changes, Renumbers, SameNumbers}
use Rattle.mea_once_core.specs.Table.{entry_at, number_of, is_last, fresh_entry, Sets, NumbersGo, Joins, Makes}
use Rattle.mea_once_core.specs.Keyed.{without_caller, LeavesEntry, GivesUp, AfterCellPoll, StepsCell, FindsValue, AsksCell, PollsCaller, StartsAt, StartsNew, IsSameKeyed}
use Rattle.mea_once_core.specs.declared.init_call.InitCall.{InitCall}
use Rattle.mea_once_core.specs.declared.key_call.KeyStage.{KeyStage}
use Rattle.mea_once_core.specs.declared.key_call.KeyStage.TheVariants as key_stages
use Rattle.mea_once_core.specs.declared.cell_stage.CellStage.{CellStage}
use Rattle.mea_once_core.specs.declared.cell_stage.CellStage.TheVariants.{New, Queued, Running, Done}
use Rattle.mea_once_core.proofs.Tables.{changes-twice, and-false, and-true}
use Rattle.mea_once.specs.declared.scripted.Scripted.{Scripted}
use Rattle.mea_once.specs.Cores.{IsOnePermit}
use Rattle.mea_once.specs.KeyCores.{NamedKeyed, answers}
use Rattle.mea_once.proofs.OneCell.{not_waiting}
use Rattle.mea_base.proofs.Tests.{last_stays}

abbrev pub Entry : Type 0
Entry = Shown ℕ NamedWaker

abbrev pub number : NamedKeyed → ℕ → Option ℕ
number k j = number_of nat_eq k.table j

-- the entry m has become this, the key has this number, and these wakers are ready beside those that were
pub record Becomes (k k' : NamedKeyed) (m : ℕ) (o : Option Entry) (key : ℕ) (p : Option ℕ) (ws : List NamedWaker) : Type 0 where
  pub entries : Changes k.table.slots k'.table.slots m o
  pub numbers : Renumbers nat_eq k.table.pairs k'.table.pairs key p
  pub wakes : k'.wakes ≡ k.wakes ++ ws

pub two_steps : (k k1 k2 : NamedKeyed) (m key : ℕ) (o o2 : Option Entry) (p p2 : Option ℕ) (ws vs : List NamedWaker) → Becomes k k1 m o key p ws → Becomes k1 k2 m o2 key p2 vs → Becomes k k2 m o2 key p2 (ws ++ vs)
two_steps k k1 k2 m key o o2 p p2 ws vs first second = record {
  entries = changes-twice k.table.slots k1.table.slots k2.table.slots m o o2 first.entries second.entries;
  numbers = λ j. second.numbers j ∙ ap (cond (nat_eq key j) p2) (first.numbers j) ∙ last_stays (nat_eq key j) p2 p (number k j);
  wakes = second.wakes ∙ ap (λ us. us ++ vs) first.wakes ∙ append_assoc k.wakes ws vs;
}

-- where the numbers are as they were, so is that of each key
pub kept_numbers : (k k' : NamedKeyed) (key : ℕ) → SameNumbers nat_eq k.table.pairs k'.table.pairs → Renumbers nat_eq k.table.pairs k'.table.pairs key (number k key)
kept_numbers k k' key same j = same j ∙ (elim (nat_eq key j) as (λ b. nat_eq key j ≡ b → number k j ≡ cond b (number k key) (number k j)) [
  | true ↦ λ is. ap (number k) (sym (eqb-true key j is))
  | false ↦ λ is. refl
] refl)

pub by_sets : (k k' : NamedKeyed) (m key : ℕ) (o : Option Entry) (ws : List NamedWaker) → Sets nat_eq k.table k'.table m o → k'.wakes ≡ k.wakes ++ ws → Becomes k k' m o key (number k key) ws
by_sets k k' m key o ws sets wakes = record { entries = sets.0; numbers = kept_numbers k k' key sets.1; wakes = wakes }

-- no other key has this number
abbrev pub IsOnly : NamedKeyed → ℕ → ℕ → Type 0
IsOnly k m key = (j : ℕ) → number k j ≡ Some m → key ≡ j

pub only_after : (k k' : NamedKeyed) (m key : ℕ) (o : Option Entry) (p : Option ℕ) (ws : List NamedWaker) → IsOnly k m key → Becomes k k' m o key p ws → IsOnly k' m key
only_after k k' m key o p ws only becomes j is = elim (nat_eq key j) as (λ b. nat_eq key j ≡ b → cond b p (number k j) ≡ Some m → key ≡ j) [
  | true ↦ λ same there. eqb-true key j same
  | false ↦ λ other there. only j there
] refl (sym (becomes.numbers j) ∙ is)

go_numbers : (b : Bool) (k k' : NamedKeyed) (m key : ℕ) → IsOnly k m key → NumbersGo nat_eq b k.table k'.table m → Renumbers nat_eq k.table.pairs k'.table.pairs key (cond b None (number k key))
go_numbers true k k' m key only go = subst (λ j. Renumbers nat_eq k.table.pairs k'.table.pairs j None) (sym (only go.0 go.1)) go.2
go_numbers false k k' m key only go = kept_numbers k k' key go

pub by_leaving : (k k' : NamedKeyed) (m key : ℕ) (e : Entry) → IsOnly k m key → LeavesEntry nat_eq k m e k' → Becomes k k' m (without_caller e) key (cond (e.listed && is_last e) None (number k key)) []
by_leaving k k' m key e only leaves = record { entries = leaves.entries; numbers = go_numbers (e.listed && is_last e) k k' m key only leaves.numbers; wakes = leaves.wakes ∙ sym (append-nil k.wakes) }

by_giving : (once : Bool) (k k' : NamedKeyed) (m key : ℕ) (e : Entry) → IsOnly k m key → GivesUp nat_eq once k m e k' → Becomes k k' m (Some (record e { listed = e.listed && not once })) key (cond (e.listed && once) None (number k key)) []
by_giving once k k' m key e only gives = record { entries = gives.entries; numbers = go_numbers (e.listed && once) k k' m key only gives.numbers; wakes = gives.wakes ∙ sym (append-nil k.wakes) }

by_same : (k k' : NamedKeyed) (m key : ℕ) (e : Entry) → entry_at k.table m ≡ Some e → IsSameKeyed nat_eq k k' → Becomes k k' m (Some e) key (number k key) []
by_same k k' m key e there same = record {
  entries = record { changed = same.0.0 m ∙ there; others = λ q apart. same.0.0 q };
  numbers = kept_numbers k k' key same.0.1;
  wakes = same.1 ∙ sym (append-nil k.wakes);
}

pub number_after : (k k' : NamedKeyed) (m key : ℕ) (o : Option Entry) (p : Option ℕ) (ws : List NamedWaker) → Becomes k k' m o key p ws → number k' key ≡ p
number_after k k' m key o p ws becomes = becomes.numbers key ∙ ap (λ b. cond b p (number k key)) (eq-eqb key key refl)

-- what is left of an entry whose cell was polled
abbrev pub with_cell : Entry → CoreCell ℕ NamedWaker → Entry
with_cell e c = record e { cell = rested c }

-- a caller of the entry m, which was this and had the key's number p if it was listed, polled its cell, and this was told
abbrev pub CorePolled : Bool → NamedKeyed → ℕ → ℕ → Entry → Option ℕ → Poll (Result (Unit {0}) ℕ) → CoreCell ℕ NamedWaker → Poll (Result ℕ ℕ) → NamedKeyed → KeyStage ℕ → Type 0
CorePolled once k m key e p Pending c poll k' stage' = (poll ≡ Pending) × (stage' ≡ key_stages.Calls m) × Becomes k k' m (Some (with_cell e c)) key p c.permit.wakes
CorePolled once k m key e p (Ready (Err z)) c poll k' stage' = (poll ≡ Ready (Err z)) × Becomes k k' m (without_caller (with_cell e c)) key (cond (e.listed && is_last (with_cell e c)) None p) c.permit.wakes
CorePolled once k m key e p (Ready (Ok _)) c poll k' stage' = (v : ℕ) × (c.value ≡ Some v) × (poll ≡ Ready (Ok v))
    × Becomes k k' m (without_caller (record (with_cell e c) { listed = e.listed && not once })) key (cond (e.listed && once) None p) c.permit.wakes

pub full_not_last : (e : Entry) (v : ℕ) (b : Bool) → e.cell.value ≡ Some v → (b && is_last e) ≡ false
full_not_last e v b full = ap (λ o. b && ((e.callers == 1) && is_none o)) full ∙ ap (λ c. b && c) (and-false (e.callers == 1)) ∙ and-false b

to_nil : (ws : List NamedWaker) → (ws ++ []) ++ [] ≡ ws
to_nil ws = append-nil (ws ++ []) ∙ append-nil ws

pub as_becomes : (k k' : NamedKeyed) (m key : ℕ) (o o' : Option Entry) (p p' : Option ℕ) (ws ws' : List NamedWaker) → Becomes k k' m o key p ws → o ≡ o' → p ≡ p' → ws ≡ ws' → Becomes k k' m o' key p' ws'
as_becomes k k' m key o o' p p' ws ws' becomes a b c = rw (← a, ← b, ← c) becomes

-- what follows from what the poll of the cell told
told_core : (once : Bool) (k b k' : NamedKeyed) (m key : ℕ) (e : Entry) (p : Option ℕ) (told : Poll (Result (Unit {0}) ℕ)) (c : CoreCell ℕ NamedWaker) (poll : Poll (Result ℕ ℕ)) (stage' : KeyStage ℕ) → IsOnly b m key
    → Becomes k b m (Some (with_cell e c)) key p c.permit.wakes → AfterCellPoll nat_eq once (Ok told) b m (with_cell e c) (Ok poll) k' stage' → CorePolled once k m key e p told c poll k' stage'
told_core once k b k' m key e p Pending c poll stage' only before told =
    let same : poll ≡ Pending = let both = told.0 in cc in (
      same,
      told.2,
      as_becomes k k' m key (Some (with_cell e c)) (Some (with_cell e c)) (number b key) p (c.permit.wakes ++ []) c.permit.wakes
          (two_steps k b k' m key (Some (with_cell e c)) (Some (with_cell e c)) p (number b key) c.permit.wakes [] before (by_same b k' m key (with_cell e c) before.entries.changed told.1)) refl (number_after k b m key _ p _ before) (append-nil c.permit.wakes),
    )
told_core once k b k' m key e p (Ready (Err z)) c poll stage' only before told =
    let same : poll ≡ Ready (Err z) = let both = told.0 in cc in (
      same,
      as_becomes k k' m key _ (without_caller (with_cell e c)) (cond (e.listed && is_last (with_cell e c)) None (number b key)) (cond (e.listed && is_last (with_cell e c)) None p) (c.permit.wakes ++ []) c.permit.wakes
          (two_steps k b k' m key (Some (with_cell e c)) (without_caller (with_cell e c)) p (cond (e.listed && is_last (with_cell e c)) None (number b key)) c.permit.wakes [] before (by_leaving b k' m key (with_cell e c) only told.1))
          refl (ap (cond (e.listed && is_last (with_cell e c)) None) (number_after k b m key _ p _ before)) (append-nil c.permit.wakes),
    )
told_core once k b k' m key e p (Ready (Ok u)) c poll stage' only before (b2, gives, out) =
    let given : Entry = record (with_cell e c) { listed = e.listed && not once } in
    let up = by_giving once b b2 m key (with_cell e c) only gives in
    let only2 = only_after b b2 m key (Some given) _ [] only up in
    let v = out.0 in
    let full : given.cell.value ≡ Some v = out.1 in
    let same : poll ≡ Ready (Ok v) = out.2 in
    let gone = by_leaving b2 k' m key given only2 out.3 in (
      v,
      full,
      same,
      as_becomes k k' m key _ (without_caller given) _ (cond (e.listed && once) None p) ((c.permit.wakes ++ []) ++ []) c.permit.wakes
          (two_steps k b2 k' m key (Some given) (without_caller given) _ _ (c.permit.wakes ++ []) [] (two_steps k b b2 m key (Some (with_cell e c)) (Some given) p _ c.permit.wakes [] before up) gone)
          refl
          (ap (λ t. cond t None (number b2 key)) (full_not_last given v given.listed full) ∙ number_after b b2 m key (Some given) _ [] up ∙ ap (cond (e.listed && once) None) (number_after k b m key _ p _ before))
          (to_nil c.permit.wakes),
    )

-- the next poll of a call finds a value there, or does not
some_or : (v : Option ℕ) → IsSome v ⊎ (IsSome v → ⊥)
some_or None = inr (λ some. absurd (cc))
some_or (Some v) = inl refl

finds_or : (c : CoreCell ℕ NamedWaker) → IsOnePermit c.permit → (stage : CellStage) → MayPoll c.permit stage → Finds c stage ⊎ (Finds c stage → ⊥)
finds_or c one New may = some_or c.value
finds_or c one (Queued n) (inl next) = elim (some_or c.value) [ inl some ↦ inl (some, next) | inr none ↦ inr (λ both. none both.0) ]
finds_or c one (Queued n) (inr waits) = inr (λ both. absurd (let none = not_waiting c.permit one n 1 both.1 in let some = waits.1 in cc))
finds_or c one Running may = inr (λ finds. finds)
finds_or c one Done may = absurd may

pub by_none : (A : Type 0) (B : ℕ → Type 0) (v : Option ℕ) → MatchOption v A B → v ≡ None → A
by_none A B None h is = h
by_none A B (Some v) h is = absurd (cc)

-- ---- the polls
module _ (once : Bool) (k k' : NamedKeyed) (key : ℕ) (call call' : InitCall Scripted) (w : NamedWaker) (poll : Poll (Result ℕ ℕ)) (stage' : KeyStage ℕ) where
  -- it polled the cell of the entry m, which is this before that
  pub record Asked (m : ℕ) (e : Entry) (p : Option ℕ) : Type 0 where
    pub told : Poll (Result (Unit {0}) ℕ)
    pub cell : CoreCell ℕ NamedWaker
    pub polls : PollsInit answers e.cell call w (Ok told) cell call'
    pub core : CorePolled once k m key e p told cell poll k' stage'

  asks_core : (b : NamedKeyed) (m : ℕ) (e : Entry) (p : Option ℕ) → IsOnly b m key → Becomes k b m (Some e) key p [] → (told : Result (Poll (Result (Unit {0}) ℕ)) (NamedWaker × NoMemory)) (c : CoreCell ℕ NamedWaker) (between : NamedKeyed)
      → StepsCell answers nat_eq b m e call w told c between call' → AfterCellPoll nat_eq once told between m (with_cell e c) (Ok poll) k' stage' → Asked m e p
  asks_core b m e p only before (Ok told) c between steps follows =
      let polled = by_sets b between m key (Some (with_cell e c)) c.permit.wakes steps.sets steps.wakes in
      record {
        told = told;
        cell = c;
        polls = steps.polls;
        core = told_core once k between k' m key e p told c poll stage' (only_after b between m key (Some (with_cell e c)) (number b key) c.permit.wakes only polled)
            (as_becomes k between m key _ _ (number b key) p ([] ++ c.permit.wakes) c.permit.wakes (two_steps k b between m key (Some e) (Some (with_cell e c)) p (number b key) [] c.permit.wakes before polled) refl (number_after k b m key _ p _ before) refl) follows;
      }
  asks_core b m e p only before (Err failed) c between steps follows = absurd (let no_poll = follows.0 in cc)

  -- an entry that gives its value up where there is one is not listed with it
  abbrev pub IsFit : Entry → Type 0
  IsFit e = once ≡ true → IsSome e.cell.value → e.listed ≡ false

  -- a further poll of a caller of the entry
  finds_core : (m : ℕ) (e : Entry) → IsOnly k m key → IsFit e → IsSome e.cell.value → FindsValue answers nat_eq k m e call w (Ok poll) k' call' stage' → ((c : CoreCell ℕ NamedWaker) (v : ℕ) → PollsInit answers e.cell call w (Ok (Ready (Ok tt))) c call' → e.cell.value ≡ Some v → c.value ≡ Some v)
      → Asked m e (number k key)
  finds_core m e only fit full finds still =
      let v = finds.0 in
      let c = finds.3.0 in
      let between = finds.3.1 in
      let steps = finds.3.2 in
      let there : c.value ≡ Some v = still c v steps.polls finds.1 in
      let polled = by_sets k between m key (Some (with_cell e c)) c.permit.wakes steps.sets steps.wakes in
      let gone = by_leaving between k' m key (with_cell e c) (only_after k between m key (Some (with_cell e c)) (number k key) c.permit.wakes only polled) finds.3.3 in
      let same : poll ≡ Ready (Ok v) = finds.2 in
      record {
        told = Ready (Ok tt);
        cell = c;
        polls = steps.polls;
        core = (
          v,
          there,
          same,
          as_becomes k k' m key (without_caller (with_cell e c)) (without_caller (record (with_cell e c) { listed = e.listed && not once })) _ (cond (e.listed && once) None (number k key)) (c.permit.wakes ++ []) c.permit.wakes
              (two_steps k between k' m key (Some (with_cell e c)) (without_caller (with_cell e c)) (number k key) (cond (e.listed && is_last (with_cell e c)) None (number between key)) c.permit.wakes [] polled gone)
              (ap (λ l. without_caller (record (with_cell e c) { listed = l })) (sym (stays once refl e.listed refl)))
              (ap (λ t. cond t None (number between key)) (full_not_last (with_cell e c) v e.listed there) ∙ number_after k between m key _ _ _ polled ∙ ap (λ t. cond t None (number k key)) (sym (not_given once refl e.listed refl)))
              (append-nil c.permit.wakes),
        );
      }
    where
      stays : (b : Bool) → once ≡ b → (l : Bool) → e.listed ≡ l → (e.listed && not once) ≡ e.listed
      stays true is l listed = let no_list = fit is full in ap (λ l. l && not once) no_list ∙ sym no_list
      stays false is l listed = ap (λ b. e.listed && not b) is ∙ and-true e.listed

      not_given : (b : Bool) → once ≡ b → (l : Bool) → e.listed ≡ l → (e.listed && once) ≡ false
      not_given true is l listed = ap (λ l. l && once) (fit is full)
      not_given false is l listed = ap (λ b. e.listed && b) is ∙ and-false e.listed

  full_of : (c : CoreCell ℕ NamedWaker) (stage : CellStage) → Finds c stage → IsSome c.value
  full_of c New finds = finds
  full_of c (Queued n) finds = finds.0
  full_of c _ finds = absurd finds

  asks_at : (b : NamedKeyed) (m : ℕ) (e : Entry) (p : Option ℕ) → IsOnly b m key → Becomes k b m (Some e) key p [] → AsksCell answers nat_eq once b m e call w (Ok poll) k' call' stage' → Asked m e p
  asks_at b m e p only before asks = asks_core b m e p only before asks.0 asks.1 asks.2 asks.3 asks.4

  pub goes_on : (m : ℕ) (e : Entry) → IsOnly k m key → IsFit e → entry_at k.table m ≡ Some e → IsOnePermit e.cell.permit → MayPoll e.cell.permit call.stage → PollsCaller answers nat_eq once k m e call w (Ok poll) k' call' stage'
      → ((c : CoreCell ℕ NamedWaker) (v : ℕ) → PollsInit answers e.cell call w (Ok (Ready (Ok tt))) c call' → e.cell.value ≡ Some v → c.value ≡ Some v) → Asked m e (number k key)
  goes_on m e only fit there one may polls still = elim (finds_or e.cell one call.stage may) as (λ x. Asked m e (number k key)) [
    | inl finds ↦ finds_core m e only fit (full_of e.cell call.stage finds) (polls.0 finds) still
    | inr other ↦ asks_at k m e (number k key) only (by_same k k m key e there (((λ n. refl), (λ j. refl)), refl)) (polls.1 other)
  ]

  -- a first poll at an entry that is there and whose cell is empty
  pub begins_at : (m : ℕ) (e : Entry) → IsOnly k m key → entry_at k.table m ≡ Some e → e.cell.value ≡ None → StartsAt answers nat_eq once k key m e call w (Ok poll) k' call' stage' → Asked m (record e { callers = e.callers + 1 }) (number k key)
  begins_at m e only there none starts = elim (by_none _ _ e.cell.value starts none) as (λ x. Asked m (record e { callers = e.callers + 1 }) (number k key)) [
    | inl h ↦ joins h.0 h.1 h.2 h.3 h.4 h.5 h.6 h.7
    | inr h ↦ absurd (let no_poll = h.3 in cc)
  ]
    where
      joins : (told : Result (Poll (Result (Unit {0}) ℕ)) (NamedWaker × NoMemory)) (c : CoreCell ℕ NamedWaker) (between j : NamedKeyed) → StepsCell answers nat_eq k m e call w told c between call' → Joins nat_eq between.table j.table m → j.wakes ≡ between.wakes
          → AfterCellPoll nat_eq once told j m (record e { cell = rested c; callers = e.callers + 1 }) (Ok poll) k' stage' → Asked m (record e { callers = e.callers + 1 }) (number k key)
      joins (Ok told) c between j steps joins_as wakes follows =
          let e' : Entry = record e { callers = e.callers + 1 } in
          let polled = by_sets k between m key (Some (with_cell e c)) c.permit.wakes steps.sets steps.wakes in
          let more = by_sets between j m key (Some (with_cell e' c)) [] (joins_as (with_cell e c) polled.entries.changed) (wakes ∙ sym (append-nil between.wakes)) in
          let both = two_steps k between j m key (Some (with_cell e c)) (Some (with_cell e' c)) (number k key) (number between key) c.permit.wakes [] polled more in
          record {
            told = told;
            cell = c;
            polls = steps.polls;
            core = told_core once k j k' m key e' (number k key) told c poll stage' (only_after k j m key _ _ _ only both)
                (as_becomes k j m key _ _ (number between key) (number k key) (c.permit.wakes ++ []) c.permit.wakes both refl (number_after k between m key _ _ _ polled) (append-nil c.permit.wakes)) follows;
          }
      joins (Err failed) c between j steps joins_as wakes follows = absurd (let no_poll = follows.0 in cc)

  -- a first poll that finds a value there
  pub finds_at : (m v : ℕ) (e : Entry) → e.cell.value ≡ Some v → StartsAt answers nat_eq once k key m e call w (Ok poll) k' call' stage' → (poll ≡ Ready (Ok v)) × (call' ≡ call) × IsSameKeyed nat_eq k k'
  finds_at m v e is starts =
      let h = rw is at starts in
      let same : h.0.0 ≡ v = inside (sym h.0.1) in
      (h.0.2 ∙ ap (λ v. Ready (Ok v)) same, h.0.3, h.1)

  -- a first poll of a key that has no entry
  pub record AskedNew : Type 0 where
    pub m : ℕ
    pub fresh : entry_at k.table m ≡ None
    pub asked : Asked m fresh_entry (Some m)

  pub begins_new : ((j m : ℕ) → number k j ≡ Some m → IsSome (entry_at k.table m)) → StartsNew answers nat_eq once k key call w (Ok poll) k' call' stage' → AskedNew
  begins_new there (inl h) = makes h.0 h.1 h.2 h.3 h.4
    where
      makes : (n : ℕ) (b : NamedKeyed) → Makes nat_eq k.table b.table key n fresh_entry → b.wakes ≡ k.wakes → AsksCell answers nat_eq once b n fresh_entry call w (Ok poll) k' call' stage' → AskedNew
      makes n b made wakes asks =
          let becomes : Becomes k b n (Some fresh_entry) key (Some n) [] = record { entries = made.entries; numbers = made.numbers; wakes = wakes ∙ sym (append-nil k.wakes) } in
          let only : IsOnly k n key = λ j is. absurd (let one = value_in (entry_at k.table n) (there j n is) in let some = one.1 in let none = made.fresh in cc) in
          record { m = n; fresh = made.fresh; asked = asks_at b n fresh_entry (Some n) (only_after k b n key (Some fresh_entry) (Some n) [] only becomes) becomes asks }
  begins_new there (inr h) = absurd h.0

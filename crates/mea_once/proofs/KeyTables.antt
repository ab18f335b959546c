-- a map or a group whose one round, key and entry have changed, with one of its futures
use Rattle.std.proofs.Common.{◌≡◌, ℕ, ◌+◌, ◌==◌, ◌⊎◌, inl, inr, Bool, true, false, cond, List, [], ◌∷◌, Option, Some, None, option_map, nat_eq, refl, ap, sym, subst, ◌∙◌, arith}
use Rattle.std.specs.Option.{IsSome, option_and_then}
use Rattle.std.proofs.lemmas.Bool.{eqb-true, eq-eqb, ne_eqb}
use Rattle.std.specs.FinMap.{get, insert, remove, len, empty, get-empty}
use Rattle.std.specs.Ordering.{nat_cmp}
use Rattle.std.specs.Map.{lookup}
use Rattle.mea_base.specs.Totals.{total, weight}
use Rattle.mea_base.proofs.Maps.{inside, value_in, by_put, by_gone, get-there, get-other, get-gone, get-removed_other}
use Rattle.mea_base.proofs.NamedMaps.{same_named, get-seen}
use Rattle.mea_base.proofs.Tests.{by_name}
use Rattle.mea_base.proofs.Totals.{total-remove, total-same, get_removed, get_inserted}
use Rattle.mea_by_name.specs.declared.named_waker.NamedWaker.{NamedWaker}
use Rattle.mea_by_name.specs.ByName.{Names, seen, own, is_of}
use Rattle.mea_by_name.proofs.Own.{get-own, own-put, own-gone, put_gone, seen-insert, seen-remove}
use Rattle.mea_once_core.specs.Links.{Changes}
use Rattle.mea_once_core.specs.Table.{Table as CoreTable, entry_at}
use Rattle.mea_once_core.specs.Waiting.{waiting_at, waiting_in}
use Rattle.mea_once_core.specs.declared.key_call.KeyStage.TheVariants as key_stages
use Rattle.mea_once_core.proofs.Waits.{waiting-changes}
use Rattle.mea_once_model.specs.Tables.{Table}
use Rattle.mea_once_model.specs.Cells.{turned_to}
use Rattle.mea_once.specs.declared.key_future.KeyFuture.{KeyFuture}
use Rattle.mea_once.specs.declared.round.Round.{Round}
use Rattle.mea_once.specs.KeyEntries.{KeptTable}
use Rattle.mea_once.specs.Parts.{AreKept}
use Rattle.mea_once.specs.KeyParts.{value_of, valued, values_in, kept_cell, round_in, round_seen, table_seen, as_caller, slot_of, of_round, callers_of, IsRound, HasRound, IsKey, Absent, Computing, Valued, CallFits, waiting_of, AreTogether}
use Rattle.mea_once.proofs.KeySteps.{Entry, number, IsOnly}

-- where one entry has changed, each other is as it was
pub other_entries : (t t' : CoreTable ℕ ℕ NamedWaker) (m : ℕ) (o : Option Entry) → Changes t.slots t'.slots m o → (q : ℕ) → (m ≡ q → ⊥) → entry_at t' q ≡ entry_at t q
other_entries t t' m o entries q apart = entries.others q (λ same. apart (sym same))

-- ---- maps that differ at one name
abbrev pub Elsewhere : {X : Type 0} → Names X → Names X → ℕ → Type 0
Elsewhere m m' k = (j : ℕ) → (k ≡ j → ⊥) → get m' j ≡ get m j

pub put_twice : {X : Type 0} (m : Names X) (k : ℕ) (a b : X) → insert (insert m k a) k b ≡ insert m k b
put_twice m k a b = same_named _ _ (by_put (insert m k a) k b (λ j o. o ≡ get (insert m k b) j) (sym (get-there m k b)) (λ j apart. get-other m k j a apart ∙ sym (get-other m k j b apart)))

same_removed : {X : Type 0} (m m' : Names X) (k : ℕ) → Elsewhere m m' k → remove m' k ≡ remove m k
same_removed m m' k same = same_named _ _ (by_gone m' k (λ j o. o ≡ get (remove m k) j) (sym (get-gone m k)) (λ j apart. same j apart ∙ sym (get-removed_other m k j apart)))

-- what a map weighs that differs at one name
pub total_elsewhere : {X : Type 0} (v w : ℕ → X → ℕ) (m m' : Names X) (k : ℕ) → Elsewhere m m' k → ((j : ℕ) (x : X) → get m j ≡ Some x → (k ≡ j → ⊥) → w j x ≡ v j x) → total w m' + weight v k (get m k) ≡ total v m + weight w k (get m' k)
total_elsewhere v w m m' k same alike =
    let rest : total w (remove m k) ≡ total v (remove m k) = total-same w v (remove m k) (λ j x is. by_name k j (λ eq. absurd (let none : get (remove m k) j ≡ None = ap (get (remove m k)) (sym eq) ∙ get-gone m k in cc)) (λ apart. alike j x (sym (get-removed_other m k j apart) ∙ is) apart)) in
    let gone : total w (remove m' k) ≡ total w (remove m k) = ap (total w) (same_removed m m' k same) in
    omega (arith, rest, gone, total-remove w m' k, total-remove v m k)

-- ---- the futures of a round
pub own_apart : {X : Type 0} (owner : X → ℕ) (o : ℕ) (m m' : Names X) (k : ℕ) → Elsewhere m m' k → ((x : X) → get m k ≡ Some x → owner x ≡ o → ⊥) → ((x : X) → get m' k ≡ Some x → owner x ≡ o → ⊥) → own owner o m' ≡ own owner o m
own_apart {X} owner o m m' k same was is = same_named _ _ (λ j. by_name k j
    (λ eq. subst (λ j. get (own owner o m') j ≡ get (own owner o m) j) eq (get-own owner o m' k ∙ hides (get m' k) is ∙ sym (hides (get m k) was) ∙ sym (get-own owner o m k)))
    (λ apart. get-own owner o m' j ∙ ap (λ p. cond (is_of owner o p) p None) (same j apart) ∙ sym (get-own owner o m j)))
  where
    hides : (p : Option X) → ((x : X) → p ≡ Some x → owner x ≡ o → ⊥) → cond (is_of owner o p) p None ≡ None
    hides None none = refl
    hides (Some x) none = ap (λ b. cond b (Some x) None) (ne_eqb (owner x) o (none x refl))

slots_apart : (a b : ℕ) → a + 1 ≡ b + 1 → a ≡ b
slots_apart a b is = omega arith

slot_in : (r : Option ℕ) (n : ℕ) → slot_of r ≡ n + 1 → r ≡ Some n
slot_in None n is = absurd (omega arith)
slot_in (Some q) n is = ap (λ q. Some q) (slots_apart q n is)

-- what becomes of a future of round n, or of none
abbrev pub OfRound : ℕ → Option KeyFuture → Type 0
OfRound n None = Unit {0}
OfRound n (Some y) = y.round ≡ Some n

turned_elsewhere : (fs : Names KeyFuture) (f : ℕ) (p : Option KeyFuture) → Elsewhere fs (turned_to fs f p) f
turned_elsewhere fs f None = λ j apart. get-removed_other fs f j apart
turned_elsewhere fs f (Some y) = λ j apart. get-other fs f j y apart

turned_at : (fs : Names KeyFuture) (f : ℕ) (p : Option KeyFuture) → get (turned_to fs f p) f ≡ p
turned_at fs f None = get-gone fs f
turned_at fs f (Some y) = get-there fs f y

module _ (fs : Names KeyFuture) (f n : ℕ) (x : KeyFuture) (there : get fs f ≡ Some x) where
  -- the futures of another round
  pub callers_elsewhere : (p : Option KeyFuture) → OfRound n p → ((q : ℕ) → x.round ≡ Some q → q ≡ n) → (q : ℕ) → (n ≡ q → ⊥) → callers_of q (turned_to fs f p) ≡ callers_of q fs
  callers_elsewhere p of was q apart = ap (seen as_caller) (own_apart of_round (q + 1) fs (turned_to fs f p) f (turned_elsewhere fs f p)
      (λ y is mine. let same : y ≡ x = inside (sym is ∙ there) in apart (sym (was q (sym (ap (λ (y : KeyFuture). y.round) same) ∙ slot_in y.round q mine))))
      (λ y is mine. now p of y (sym (turned_at fs f p) ∙ is) mine))
    where
      now : (p : Option KeyFuture) → OfRound n p → (y : KeyFuture) → p ≡ Some y → slot_of y.round ≡ q + 1 → ⊥
      now None of y is mine = absurd (cc)
      now (Some z) of y is mine =
          let same : z ≡ y = inside is in
          let here : Some n ≡ Some q = sym of ∙ ap (λ (z : KeyFuture). z.round) same ∙ slot_in y.round q mine in
          apart (inside here)

  -- and of this one, where it was a caller of it
  pub callers_turned : (z : KeyFuture) → z.round ≡ Some n → (p : Option KeyFuture) → OfRound n p → callers_of n (turned_to fs f p) ≡ turned_to (callers_of n (insert fs f z)) f (option_map as_caller p)
  callers_turned z of_z None of =
      ap (seen as_caller) (own-gone of_round (n + 1) fs f) ∙ seen-remove as_caller (own of_round (n + 1) fs) f
      ∙ sym (ap (λ m. remove m f) (ap (seen as_caller) (own-put of_round (n + 1) fs f z (ap slot_of of_z)) ∙ seen-insert as_caller (own of_round (n + 1) fs) f z) ∙ put_gone (seen as_caller (own of_round (n + 1) fs)) f (as_caller z))
  callers_turned z of_z (Some y) of =
      ap (seen as_caller) (own-put of_round (n + 1) fs f y (ap slot_of of)) ∙ seen-insert as_caller (own of_round (n + 1) fs) f y
      ∙ sym (ap (λ m. insert m f (as_caller y)) (ap (seen as_caller) (own-put of_round (n + 1) fs f z (ap slot_of of_z)) ∙ seen-insert as_caller (own of_round (n + 1) fs) f z) ∙ put_twice (seen as_caller (own of_round (n + 1) fs)) f (as_caller z) (as_caller y))

-- ---- the values of keys
abbrev pub value_at : CoreTable ℕ ℕ NamedWaker → Option ℕ → Option ℕ
value_at t o = option_and_then (λ n. value_of (entry_at t n)) o

get_valued : (m : Names ℕ) (k : ℕ) (v : Option ℕ) (j : ℕ) → get (valued m k v) j ≡ cond (k == j) v (get m j)
get_valued m k None j = get_removed m k j
get_valued m k (Some v) j = get_inserted m k j v

turn_round : (a b : ℕ) → (a == b) ≡ (b == a)
turn_round a b = elim (a == b) as (λ c. (a == b) ≡ c → c ≡ (b == a)) [
  | true ↦ λ is. sym (eq-eqb b a (sym (eqb-true a b is)))
  | false ↦ λ is. sym (ne_eqb b a (λ same. absurd (let t : (a == b) ≡ true = eq-eqb a b (sym same) in cc)))
] refl

pub get_values : (t : CoreTable ℕ ℕ NamedWaker) (ps : List (ℕ × ℕ)) (j : ℕ) → get (values_in t ps) j ≡ option_and_then (λ n. value_of (entry_at t n)) (lookup (nat_eq j) ps)
get_values t [] j = get-empty nat_cmp j
get_values t (p ∷ ps) j = get_valued (values_in t ps) p.0 (value_of (entry_at t p.1)) j ∙ ap (cond (p.0 == j) (value_of (entry_at t p.1))) (get_values t ps j)
    ∙ ap (λ b. cond b (value_of (entry_at t p.1)) (option_and_then (λ n. value_of (entry_at t n)) (lookup (nat_eq j) ps))) (turn_round p.0 j)
    ∙ (elim (nat_eq j p.0) as (λ b. cond b (value_of (entry_at t p.1)) (option_and_then (λ n. value_of (entry_at t n)) (lookup (nat_eq j) ps)) ≡ option_and_then (λ n. value_of (entry_at t n)) (cond b (Some p.1) (lookup (nat_eq j) ps))) [ true ↦ refl | false ↦ refl ])

-- numbers whose entries are as they were have the same value
pub values_as : (t t' : CoreTable ℕ ℕ NamedWaker) (o : Option ℕ) → ((q : ℕ) → o ≡ Some q → entry_at t' q ≡ entry_at t q) → value_at t' o ≡ value_at t o
values_as t t' None same = refl
values_as t t' (Some q) same = ap value_of (same q refl)

-- a key stands as it did where its number, its current round, its entry and its round are as they were
pub key_as : (once : Bool) (e e' : KeptTable) (k : ℕ) → number e'.keyed k ≡ number e.keyed k → get e'.current k ≡ get e.current k → ((m : ℕ) → number e.keyed k ≡ Some m → entry_at e'.keyed.table m ≡ entry_at e.keyed.table m)
    → ((q : ℕ) (r : Round) → get e.rounds q ≡ Some r → r.key ≡ k → number e.keyed k ≡ Some r.entry → get e'.rounds q ≡ Some r) → IsKey once e k → IsKey once e' k
key_as once e e' k num now entries rounds (Absent none current) = Absent (num ∙ none) (now ∙ current)
key_as once e e' k num now entries rounds (Computing q r s is_num current is key entry empty listed) = Computing q r s (num ∙ is_num) (now ∙ current) (rounds q r is key is_num) key (entries r.entry is_num ∙ entry) empty listed
key_as once e e' k num now entries rounds (Valued m v s is_num current entry full listed map_only round) = Valued m v s (num ∙ is_num) (now ∙ current) (entries m is_num ∙ entry) full listed map_only (at round)
  where
    at : HasRound e k m s → HasRound e' k m s
    at (inl nobody) = inl nobody
    at (inr (q, r, is, at_m, key)) = inr (q, r, rounds q r is key (is_num ∙ ap (λ m. Some m) (sym at_m)), at_m, key)

-- ---- a table before a step at round n, entry m and key k
module _ (once : Bool) (e : KeptTable) (fs : Names KeyFuture) (kept : AreTogether once e fs) where
  -- an entry of a round is of no other key
  pub of_round_only : (n : ℕ) (r : Round) → get e.rounds n ≡ Some r → IsOnly e.keyed r.entry r.key
  of_round_only n r there j is = at (kept.keys j)
    where
      shown : IsRound e fs n r
      shown = kept.rounds n r there

      of_same : (q : ℕ) (s : Round) → get e.rounds q ≡ Some s → s.entry ≡ r.entry → s.key ≡ j → r.key ≡ j
      of_same q s is_there same key =
          let name : q ≡ n = kept.one q n s r is_there there same in
          let both : s ≡ r = inside (sym is_there ∙ ap (get e.rounds) name ∙ there) in
          ap (λ (r : Round). r.key) (sym both) ∙ key

      at : IsKey once e j → r.key ≡ j
      at (Absent none current) = absurd (cc)
      at (Computing q s entry num current is_there key entry_is empty listed) = of_same q s is_there (inside (sym num ∙ is)) key
      at (Valued m v s num current entry_is full listed map_only (inl nobody)) =
          let same : m ≡ r.entry = inside (sym num ∙ is) in
          let one : s ≡ shown.shown = inside (sym entry_is ∙ ap (entry_at e.keyed.table) same ∙ shown.there) in
          absurd (let callers : s.callers ≡ r.callers = ap (λ (s : Entry). s.callers) one ∙ shown.callers in let some = shown.some in let none = nobody.0 in omega arith)
      at (Valued m v s num current entry_is full listed map_only (inr (q, t, is_there, at_m, key))) = of_same q t is_there (at_m ∙ inside (sym num ∙ is)) key

  -- an entry of a group is not listed with a value
  pub round_fits : (n : ℕ) (r : Round) (there : get e.rounds n ≡ Some r) → once ≡ true → IsSome (kept.rounds n r there).shown.cell.value → (kept.rounds n r there).shown.listed ≡ false
  round_fits n r there group some = at (kept.rounds n r there).shown.listed refl
    where
      shown : IsRound e fs n r
      shown = kept.rounds n r there

      by_key : (v : ℕ) → shown.shown.cell.value ≡ Some v → number e.keyed r.key ≡ Some r.entry → IsKey once e r.key → ⊥
      by_key v full is (Computing q s entry num current is_there key entry_is empty listed) =
          let same : s.entry ≡ r.entry = inside (sym num ∙ is) in
          let one : entry ≡ shown.shown = inside (sym entry_is ∙ ap (entry_at e.keyed.table) same ∙ shown.there) in
          absurd (let none : shown.shown.cell.value ≡ None = ap (λ (s : Entry). s.cell.value) (sym one) ∙ empty in cc)
      by_key v full is (Absent none current) = absurd (cc)
      by_key v full is (Valued m u s num current entry_is full_now listed map_only round) = absurd (cc)

      at : (b : Bool) → shown.shown.listed ≡ b → shown.shown.listed ≡ false
      at false is = is
      at true is = absurd (let one = value_in shown.shown.cell.value some in by_key one.0 one.1 (shown.listed is) (kept.keys r.key))

-- what is around the round n, which is or is to be at entry m and of key k
pub record Around (e : KeptTable) (n m k : ℕ) : Type 0 where
  pub entry : (q : ℕ) (r : Round) → get e.rounds q ≡ Some r → r.entry ≡ m → n ≡ q
  pub here : (r : Round) → get e.rounds n ≡ Some r → (r.entry ≡ m) × (r.key ≡ k)
  pub only : IsOnly e.keyed m k

-- the round n, the entry m and the key k have become these, with the future f
pub record Changed (once : Bool) (e : KeptTable) (fs : Names KeyFuture) (f n m k : ℕ) (e' : KeptTable) (p : Option KeyFuture) : Type 0 where
  pub entry : Option Entry
  pub num : Option ℕ
  pub entries : Changes e.keyed.table.slots e'.keyed.table.slots m entry
  pub numbers : (j : ℕ) → number e'.keyed j ≡ cond (nat_eq k j) num (number e.keyed j)
  pub quiet : e'.keyed.wakes ≡ []
  pub rounds : Elsewhere e.rounds e'.rounds n
  pub current : Elsewhere e.current e'.current k
  -- what the key's number is
  pub keeps_number : (q : ℕ) → number e.keyed k ≡ Some q → (m ≡ q → ⊥) → num ≡ Some q
  pub is_number : (q : ℕ) → num ≡ Some q → (m ≡ q) ⊎ (number e.keyed k ≡ Some q)
  -- the round, where it is there still, and else nobody is a caller of it, and nobody waits in the entry
  pub round : (r : Round) → get e'.rounds n ≡ Some r → IsRound e' (turned_to fs f p) n r × (r.entry ≡ m) × (r.key ≡ k)
  pub stays : (g : ℕ) (y : KeyFuture) → get (turned_to fs f p) g ≡ Some y → y.round ≡ Some n → IsSome (get e'.rounds n)
  pub nobody : get e'.rounds n ≡ None → waiting_at entry ≡ 0
  pub before : waiting_at (entry_at e.keyed.table m) ≡ weight (waiting_of e) n (get e.rounds n)
  pub key : IsKey once e' k
  pub call : (y : KeyFuture) → p ≡ Some y → CallFits y.round e' y
  pub of : OfRound n p
  pub futures : e'.futures ≡ len (turned_to fs f p)

module _ (once : Bool) (e : KeptTable) (fs : Names KeyFuture) (kept : AreTogether once e fs) (f n m k : ℕ) (x : KeyFuture) (there : get fs f ≡ Some x) (was : (q : ℕ) → x.round ≡ Some q → q ≡ n) (around : Around e n m k)
    (e' : KeptTable) (p : Option KeyFuture) (c : Changed once e fs f n m k e' p) where
  abbrev after : Names KeyFuture
  after = turned_to fs f p

  same_entry : (r : Round) (q : ℕ) → get e.rounds q ≡ Some r → (n ≡ q → ⊥) → entry_at e'.keyed.table r.entry ≡ entry_at e.keyed.table r.entry
  same_entry r q is apart = c.entries.others r.entry (λ same. apart (around.entry q r is same))

  other_number : (j : ℕ) → (k ≡ j → ⊥) → number e'.keyed j ≡ number e.keyed j
  other_number j apart = c.numbers j ∙ ap (λ b. cond b c.num (number e.keyed j)) (ne_eqb k j apart)

  own_number : number e'.keyed k ≡ c.num
  own_number = c.numbers k ∙ ap (λ b. cond b c.num (number e.keyed k)) (eq-eqb k k refl)

  -- another round
  other_round : (q : ℕ) (r : Round) → get e.rounds q ≡ Some r → (n ≡ q → ⊥) → IsRound e' after q r
  other_round q r is apart =
      let it = kept.rounds q r is in
      record {
        shown = it.shown;
        there = same_entry r q is apart ∙ it.there;
        callers = it.callers;
        some = it.some;
        kept = subst (AreKept false (kept_cell it.shown.cell r)) (sym (callers_elsewhere fs f n x there p c.of was q apart)) it.kept;
        listed = λ yes_listed. by_name k r.key (λ same. ap (number e'.keyed) (sym same) ∙ own_number ∙ c.keeps_number r.entry (ap (number e.keyed) same ∙ it.listed yes_listed) (λ eq. apart (around.entry q r is (sym eq))))
            (λ other. other_number r.key other ∙ it.listed yes_listed);
      }

  all_rounds : (q : ℕ) (r : Round) → get e'.rounds q ≡ Some r → IsRound e' after q r
  all_rounds q r is = by_name n q (λ same. subst (λ q. IsRound e' after q r) same ((c.round r (ap (get e'.rounds) same ∙ is)).0)) (λ apart. other_round q r (sym (c.rounds q apart) ∙ is) apart)

  -- another key
  pub other_key : (j : ℕ) → (k ≡ j → ⊥) → IsKey once e j → IsKey once e' j
  other_key j apart = key_as once e e' j (other_number j apart) (c.current j apart) (λ i num. c.entries.others i (λ same. apart (around.only j (num ∙ ap (λ i. Some i) same))))
      (λ q r is key num. c.rounds q (λ same. apart (sym (around.here r (ap (get e.rounds) same ∙ is)).1 ∙ key)) ∙ is)

  all_keys : (j : ℕ) → IsKey once e' j
  all_keys j = by_name k j (λ same. subst (IsKey once e') same c.key) (λ apart. other_key j apart (kept.keys j))

  one_entry : (q i : ℕ) (r s : Round) → get e'.rounds q ≡ Some r → get e'.rounds i ≡ Some s → r.entry ≡ s.entry → q ≡ i
  one_entry q i r s one two same = by_name n q
      (λ a. by_name n i (λ b. sym a ∙ b) (λ b. sym a ∙ around.entry i s (sym (c.rounds i b) ∙ two) (sym same ∙ (c.round r (ap (get e'.rounds) a ∙ one)).1)))
      (λ a. by_name n i (λ b. sym (around.entry q r (sym (c.rounds q a) ∙ one) (same ∙ (c.round s (ap (get e'.rounds) b ∙ two)).1)) ∙ b) (λ b. kept.one q i r s (sym (c.rounds q a) ∙ one) (sym (c.rounds i b) ∙ two) same))

  -- who has the key's number is the key
  its_number : (j q : ℕ) → number e.keyed j ≡ Some q → c.num ≡ Some q → k ≡ j
  its_number j q is num = elim (c.is_number q num) as (λ x. k ≡ j) [
    | inl same ↦ around.only j (is ∙ ap (λ q. Some q) (sym same))
    | inr had ↦ kept.apart k j q had is
  ]

  two_keys : (i j q : ℕ) → number e'.keyed i ≡ Some q → number e'.keyed j ≡ Some q → i ≡ j
  two_keys i j q one two = by_name k i
      (λ a. by_name k j (λ b. sym a ∙ b) (λ b. sym a ∙ its_number j q (sym (other_number j b) ∙ two) (sym own_number ∙ ap (number e'.keyed) a ∙ one)))
      (λ a. by_name k j (λ b. sym (its_number i q (sym (other_number i a) ∙ one) (sym own_number ∙ ap (number e'.keyed) b ∙ two)) ∙ b) (λ b. kept.apart i j q (sym (other_number i a) ∙ one) (sym (other_number j b) ∙ two)))

  all_calls : (g : ℕ) (y : KeyFuture) → get after g ≡ Some y → CallFits y.round e' y
  all_calls g y is = by_name f g (λ same. c.call y (sym (turned_at fs f p) ∙ ap (get after) same ∙ is)) (λ apart. by_round y.round refl (kept.calls g y (sym (turned_elsewhere fs f p g apart) ∙ is)))
    where
      by_round : (r : Option ℕ) → y.round ≡ r → CallFits r e y → CallFits r e' y
      by_round None of fits = fits
      by_round (Some q) of (r, had, stage, key, polled) = by_name n q
          (λ same.
          let now = value_in (get e'.rounds n) (c.stays g y is (of ∙ ap (λ q. Some q) (sym same))) in
          let it = c.round now.0 now.1 in
          let old = around.here r (ap (get e.rounds) same ∙ had) in
          (now.0, ap (get e'.rounds) (sym same) ∙ now.1, stage ∙ ap (λ n. key_stages.Calls n) (old.0 ∙ sym it.1), it.2 ∙ sym old.1 ∙ key, polled))
          (λ apart. (r, c.rounds q apart ∙ had, stage, key, polled))

  all_waiting : waiting_in e'.keyed.table.slots ≡ total (waiting_of e') e'.rounds
  all_waiting =
      let slots = waiting-changes e.keyed.table.slots e'.keyed.table.slots m (entry_at e.keyed.table m) c.entry refl c.entries in
      let sums = total_elsewhere (waiting_of e) (waiting_of e') e.rounds e'.rounds n c.rounds (λ q r is apart. ap waiting_at (same_entry r q is apart)) in
      let here : weight (waiting_of e') n (get e'.rounds n) ≡ waiting_at c.entry = at (get e'.rounds n) refl in
      omega (arith, slots, sums, here, c.before, kept.waiting)
    where
      at : (o : Option Round) → get e'.rounds n ≡ o → weight (waiting_of e') n (get e'.rounds n) ≡ waiting_at c.entry
      at None is = ap (weight (waiting_of e') n) is ∙ sym (c.nobody is)
      at (Some r) is = ap (weight (waiting_of e') n) is ∙ ap (λ q. waiting_at (entry_at e'.keyed.table q)) (c.round r is).1 ∙ ap waiting_at c.entries.changed

  pub changed_together : AreTogether once e' after
  changed_together = record {
    quiet = c.quiet;
    rounds = all_rounds;
    one = one_entry;
    keys = all_keys;
    apart = two_keys;
    calls = all_calls;
    futures = c.futures;
    waiting = all_waiting;
  }

  -- ---- what is seen of it
  seen_rounds : Elsewhere (table_seen e).rounds (table_seen e').rounds n
  seen_rounds q apart = get-seen (λ k r. round_seen e'.keyed.table r) e'.rounds q ∙ ap (option_map (round_seen e'.keyed.table)) (c.rounds q apart) ∙ at (get e.rounds q) refl ∙ sym (get-seen (λ k r. round_seen e.keyed.table r) e.rounds q)
    where
      at : (o : Option Round) → get e.rounds q ≡ o → option_map (round_seen e'.keyed.table) o ≡ option_map (round_seen e.keyed.table) o
      at None is = refl
      at (Some r) is = ap (λ o. Some (round_in o r)) (same_entry r q is apart)

  seen_values : Elsewhere (table_seen e).values (table_seen e').values k
  seen_values j apart = get_values e'.keyed.table e'.keyed.table.pairs j ∙ ap (value_at e'.keyed.table) (other_number j apart) ∙ values_as e.keyed.table e'.keyed.table (number e.keyed j) (λ q is. c.entries.others q (λ same. apart (around.only j (is ∙ ap (λ q. Some q) same))))
      ∙ sym (get_values e.keyed.table e.keyed.table.pairs j)

  pub seen_as : (t : Table) → t.current ≡ e'.current → Elsewhere (table_seen e).rounds t.rounds n → get t.rounds n ≡ option_map (round_seen e'.keyed.table) (get e'.rounds n) → Elsewhere (table_seen e).values t.values k → get t.values k ≡ value_at e'.keyed.table c.num
      → table_seen e' ≡ t
  seen_as t current rounds round values value = λ i. record {
    values = same_named (table_seen e').values t.values (λ j. by_name k j
        (λ same. subst (λ j. get (table_seen e').values j ≡ get t.values j) same (get_values e'.keyed.table e'.keyed.table.pairs k ∙ ap (value_at e'.keyed.table) own_number ∙ sym value))
        (λ apart. seen_values j apart ∙ sym (values j apart))) i;
    current = sym current i;
    rounds = same_named (table_seen e').rounds t.rounds (λ q. by_name n q
        (λ same. subst (λ q. get (table_seen e').rounds q ≡ get t.rounds q) same (get-seen (λ k r. round_seen e'.keyed.table r) e'.rounds n ∙ sym round))
        (λ apart. seen_rounds q apart ∙ sym (rounds q apart))) i;
  }

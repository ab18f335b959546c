-- one condition variable with its waits: what each event leaves of it
use Rattle.std.proofs.Common.{◌≡◌, ◌⊎◌, ℕ, ◌+◌, ◌-◌, ◌≤◌, ◌==◌, ◌++◌, inl, inr, Bool, true, false, cond, length, List, [], ◌∷◌, Option, Some, None, is_some, refl, ap, sym, subst, ◌∙◌, arith, if◌then◌else◌}
use Rattle.std.specs.Option.{IsSome}
use Rattle.std.specs.Ordering.{nat_cmp}
use Rattle.std.specs.FinMap.{FinMap, get, insert, remove, empty, len-empty}
use Rattle.std.proofs.lemmas.Bool.{cases_eq, eqb-true, eqb-false, eq-eqb, ne_eqb}
use Rattle.mea_base.proofs.Maps.{by_put, by_gone, removed_there, nothing_at, inside, get-there, get-other, get-gone, get-removed_other}
use Rattle.mea_by_name.specs.declared.named_waker.NamedWaker.{NamedWaker}
use Rattle.mea_by_name.specs.ByName.{Names}
use Rattle.mea_by_name.specs.NamedQueue as named
use Rattle.mea_by_name.specs.NamedQueue.{waits}
use Rattle.mea_by_name.proofs.Own.{len-new, len-gone, len-over, len-some}
use Rattle.mea_lock_core.specs.Condvar.{Condvar, Knows, AreApart, waker_under, with_waker, without_wait, notifying}
use Rattle.mea_lock.specs.declared.wait_entry.WaitEntry.{WaitEntry}
use Rattle.mea_lock.specs.CondEntries.{KeptCondvar, listed_in, IsWaitingUnder, forgotten, forgotten_under}
use Rattle.mea_lock.specs.CondParts.{AreOf, NumbersApart, IsTold, AreListed}

abbrev Listed : Type 0
Listed = ℕ × NamedWaker

-- the wait that a waker names has its number
abbrev IsOf : Names WaitEntry → Listed → Type 0
IsOf ws e = (x : WaitEntry) × (get ws e.1.name ≡ Some x) × (x.number ≡ Some e.0)

-- ---- who waits, by number and by name
-- one that is not listed does not wait
pub unlisted_apart : (ws : Names WaitEntry) (f : ℕ) (q : List Listed) → AreOf ws q → ((x : WaitEntry) → get ws f ≡ Some x → x.number ≡ None) → waits (listed_in q) f ≡ false
unlisted_apart ws f [] are none = refl
unlisted_apart ws f (e ∷ q) are none =
    ap (λ b. is_some (cond b (Some e.1.waker) (named.waker_for (listed_in q) f))) (ne_eqb e.1.name f (λ same. absurd (
    let unlisted : are.0.0.number ≡ None = none are.0.0 (ap (get ws) (sym same) ∙ are.0.1) in
    let listed = are.0.2 in
    cc)))
    ∙ unlisted_apart ws f q are.1 none

module _ (ws : Names WaitEntry) (apart : NumbersApart ws) (f n : ℕ) (x : WaitEntry) (there : get ws f ≡ Some x) (number : x.number ≡ Some n) where
  same_test : (e : Listed) → IsOf ws e → (e.0 == n) ≡ (e.1.name == f)
  same_test e is = elim (cases_eq e.0 n) [
    | inl same ↦ eq-eqb e.0 n same ∙ sym (eq-eqb e.1.name f (apart e.1.name f is.0 x n is.1 there (is.2 ∙ ap (λ m. Some m) same) number))
    | inr differs ↦ ne_eqb e.0 n differs ∙ sym (ne_eqb e.1.name f (λ alike.
        differs (inside (sym is.2 ∙ ap (λ (y : WaitEntry). y.number) (inside (sym is.1 ∙ ap (get ws) alike ∙ there)) ∙ number))))
  ]

  pub listed_with : (w : ℕ) (q : List Listed) → AreOf ws q → listed_in (with_waker q n (record { name = f; waker = w })) ≡ named.with_waker (listed_in q) f w
  listed_with w [] are = refl
  listed_with w (e ∷ q) are = λ i. (ap at (same_test e are.0) ∙ one (e.1.name == f) refl) i ∷ listed_with w q are.1 i
    where
      at : Bool → ℕ × ℕ
      at b = ((if b then record { name = f; waker = w } else e.1).name, (if b then record { name = f; waker = w } else e.1).waker)

      one : (b : Bool) → (e.1.name == f) ≡ b → at b ≡ (e.1.name, cond b w e.1.waker)
      one true is = ap (λ g. (g, w)) (sym (eqb-true e.1.name f is))
      one false is = refl

  pub listed_without : (q : List Listed) → AreOf ws q → listed_in (without_wait q n) ≡ named.without (listed_in q) f
  listed_without [] are = refl
  listed_without (e ∷ q) are = ap (λ b. listed_in (if b then without_wait q n else e ∷ without_wait q n)) (same_test e are.0)
      ∙ (elim (e.1.name == f) as (λ b. listed_in (if b then without_wait q n else e ∷ without_wait q n) ≡ cond b (named.without (listed_in q) f) ((e.1.name, e.1.waker) ∷ named.without (listed_in q) f))
      [ true ↦ listed_without q are.1 | false ↦ ap (λ r. (e.1.name, e.1.waker) ∷ r) (listed_without q are.1) ])

  pub listed_waits : (q : List Listed) → AreOf ws q → is_some (waker_under q n) ≡ waits (listed_in q) f
  listed_waits [] are = refl
  listed_waits (e ∷ q) are = ap (λ b. is_some (if b then Some e.1 else waker_under q n)) (same_test e are.0)
      ∙ (elim (e.1.name == f) as (λ b. is_some (if b then Some e.1 else waker_under q n) ≡ is_some (cond b (Some e.1.waker) (named.waker_for (listed_in q) f))) [ true ↦ refl | false ↦ listed_waits q are.1 ])

  of_with : (w : ℕ) (q : List Listed) → AreOf ws q → AreOf ws (with_waker q n (record { name = f; waker = w }))
  of_with w [] are = tt
  of_with w (e ∷ q) are = (at (e.0 == n) refl, of_with w q are.1)
    where
      at : (b : Bool) → (e.0 == n) ≡ b → IsOf ws (e.0, if b then record { name = f; waker = w } else e.1)
      at true is = (x, there, number ∙ ap (λ m. Some m) (sym (eqb-true e.0 n is)))
      at false is = are.0

-- those of a list without one
of_without : (ws : Names WaitEntry) (n : ℕ) (q : List Listed) → AreOf ws q → AreOf ws (without_wait q n)
of_without ws n [] are = tt
of_without ws n (e ∷ q) are = elim (e.0 == n) as (λ b. AreOf ws (if b then without_wait q n else e ∷ without_wait q n)) [ true ↦ of_without ws n q are.1 | false ↦ (are.0, of_without ws n q are.1) ]

of_end : (ws : Names WaitEntry) (q : List Listed) (e : Listed) → AreOf ws q → IsOf ws e → AreOf ws (q ++ e ∷ [])
of_end ws [] e are is = (is, tt)
of_end ws (d ∷ q) e are is = (are.0, of_end ws q e are.1 is)

-- a wait that does not wait is another, or is gone
of_changed : (ws ws' : Names WaitEntry) (f : ℕ) (q : List Listed) → AreOf ws q → waits (listed_in q) f ≡ false → ((g : ℕ) → (f ≡ g → ⊥) → get ws' g ≡ get ws g) → AreOf ws' q
of_changed ws ws' f [] are idle others = tt
of_changed ws ws' f (e ∷ q) are idle others =
    elim (e.1.name == f) as (λ b. (e.1.name == f) ≡ b → is_some (cond b (Some e.1.waker) (named.waker_for (listed_in q) f)) ≡ false → AreOf ws' (e ∷ q)) [
      | true ↦ λ is none. absurd (cc)
      | false ↦ λ is none. ((are.0.0, others e.1.name (λ same. eqb-false e.1.name f is (sym same)) ∙ are.0.1, are.0.2), of_changed ws ws' f q are.1 none others)
    ] refl idle

-- a wait is another of the same number
of_over : (ws : Names WaitEntry) (f : ℕ) (x y : WaitEntry) (q : List Listed) → get ws f ≡ Some x → y.number ≡ x.number → AreOf ws q → AreOf (insert ws f y) q
of_over ws f x y [] there alike are = tt
of_over ws f x y (e ∷ q) there alike are = (
  elim (cases_eq f e.1.name) [
    | inl same ↦ (
      y,
      ap (get (insert ws f y)) (sym same) ∙ get-there ws f y,
      alike ∙ ap (λ (z : WaitEntry). z.number) (inside (sym there ∙ ap (get ws) same ∙ are.0.1)) ∙ are.0.2,
    )
    | inr differs ↦ (are.0.0, get-other ws f e.1.name y differs ∙ are.0.1, are.0.2)
  ],
  of_over ws f x y q there alike are.1,
)

-- ---- numbers
apart_put : (ws : Names WaitEntry) (f : ℕ) (y : WaitEntry) → NumbersApart ws → ((n : ℕ) → y.number ≡ Some n → (g : ℕ) (z : WaitEntry) → get ws g ≡ Some z → z.number ≡ Some n → f ≡ g) → NumbersApart (insert ws f y)
apart_put ws f y apart mine g h a b n there also ag bh =
    by_put ws f y (λ g o. (a : WaitEntry) → o ≡ Some a → a.number ≡ Some n → g ≡ h)
    (λ a is ag. by_put ws f y (λ h o. (b : WaitEntry) → o ≡ Some b → b.number ≡ Some n → f ≡ h) (λ b is bh. refl)
    (λ h differs b at bh. mine n (ap (λ (z : WaitEntry). z.number) (inside is) ∙ ag) h b at bh) h b also bh)
    (λ g differs a is ag. by_put ws f y (λ h o. (b : WaitEntry) → o ≡ Some b → b.number ≡ Some n → g ≡ h)
    (λ b at bh. sym (mine n (ap (λ (z : WaitEntry). z.number) (inside at) ∙ bh) g a is ag)) (λ h differs b at bh. apart g h a b n is at ag bh) h b also bh) g a there ag

apart_gone : (ws : Names WaitEntry) (f : ℕ) → NumbersApart ws → NumbersApart (remove ws f)
apart_gone ws f apart g h a b n there also = apart g h a b n (removed_there ws f g a there) (removed_there ws f h b also)

-- ---- what is known after a change
with-there : (q : List Listed) (n m : ℕ) (k : NamedWaker) → is_some (waker_under (with_waker q n k) m) ≡ is_some (waker_under q m)
with-there [] n m k = refl
with-there (e ∷ q) n m k = elim (e.0 == m) as (λ b. is_some (if b then Some (if e.0 == n then k else e.1) else waker_under (with_waker q n k) m) ≡ is_some (if b then Some e.1 else waker_under q m)) [ true ↦ refl | false ↦ with-there q n m k ]

pub without-other : (q : List Listed) (n m : ℕ) → (n ≡ m → ⊥) → waker_under (without_wait q n) m ≡ waker_under q m
without-other [] n m apart = refl
without-other (e ∷ q) n m apart = elim (e.0 == n) as (λ b. (e.0 == n) ≡ b → waker_under (if b then without_wait q n else e ∷ without_wait q n) m ≡ waker_under (e ∷ q) m) [
  | true ↦ λ is. without-other q n m apart ∙ sym (ap (λ b. if b then Some e.1 else waker_under q m) (ne_eqb e.0 m (λ same. apart (sym (eqb-true e.0 n is) ∙ same))))
  | false ↦ λ is. ap (λ o. if e.0 == m then Some e.1 else o) (without-other q n m apart)
] refl

end-some : (q : List Listed) (m : ℕ) (e : Listed) → IsSome (waker_under q m) → IsSome (waker_under (q ++ e ∷ []) m)
end-some [] m e some = absurd (cc)
end-some (d ∷ q) m e some = elim (d.0 == m) as (λ b. IsSome (if b then Some d.1 else waker_under q m) → IsSome (if b then Some d.1 else waker_under (q ++ e ∷ []) m)) [ true ↦ λ is. refl | false ↦ end-some q m e ] some

pub end-there : (q : List Listed) (n : ℕ) (k : NamedWaker) → waker_under q n ≡ None → waker_under (q ++ (n, k) ∷ []) n ≡ Some k
end-there [] n k none = ap (λ b. if b then Some k else None) (eq-eqb n n refl)
end-there (d ∷ q) n k none = elim (d.0 == n) as (λ b. (if b then Some d.1 else waker_under q n) ≡ None → (if b then Some d.1 else waker_under (q ++ (n, k) ∷ []) n) ≡ Some k) [ true ↦ λ no. absurd (cc) | false ↦ end-there q n k ] none

-- a place that was taken and is given up again
pub end-without : (q : List Listed) (n : ℕ) (k : NamedWaker) → waker_under q n ≡ None → without_wait (q ++ (n, k) ∷ []) n ≡ q
end-without [] n k none = ap (λ b. if b then [] else (n, k) ∷ []) (eq-eqb n n refl)
end-without (d ∷ q) n k none = elim (d.0 == n) as (λ b. (if b then Some d.1 else waker_under q n) ≡ None → (if b then without_wait (q ++ (n, k) ∷ []) n else d ∷ without_wait (q ++ (n, k) ∷ []) n) ≡ d ∷ q) [
  | true ↦ λ no. absurd (cc)
  | false ↦ λ no. ap (λ r. d ∷ r) (end-without q n k no)
] none

without-gone : (q : List Listed) (n : ℕ) → waker_under (without_wait q n) n ≡ None
without-gone [] n = refl
without-gone (e ∷ q) n = elim (e.0 == n) as (λ b. (e.0 == n) ≡ b → waker_under (if b then without_wait q n else e ∷ without_wait q n) n ≡ None) [
  | true ↦ λ is. without-gone q n
  | false ↦ λ is. ap (λ b. if b then Some e.1 else waker_under (without_wait q n) n) is ∙ without-gone q n
] refl

forgotten-other : (m : FinMap nat_cmp Bool) (number : Option ℕ) (n : ℕ) → (number ≡ Some n → ⊥) → get (forgotten m number) n ≡ get m n
forgotten-other m None n apart = refl
forgotten-other m (Some k) n apart = get-removed_other m k n (λ same. apart (ap (λ j. Some j) same))

-- what is left after one was forgotten was there, under another number
forgotten-there : (m : FinMap nat_cmp Bool) (number : Option ℕ) (n : ℕ) (b : Bool) → get (forgotten m number) n ≡ Some b → (get m n ≡ Some b) × (number ≡ Some n → ⊥)
forgotten-there m None n b is = (is, λ no. absurd (cc))
forgotten-there m (Some k) n b is = (
  removed_there m k n b is,
  λ same. absurd (let gone : get (remove m k) n ≡ None = ap (get (remove m k)) (sym (inside same)) ∙ get-gone m k in cc),
)

insert-some : (m : FinMap nat_cmp Bool) (k n : ℕ) (b : Bool) → IsSome (get m n) → IsSome (get (insert m k b) n)
insert-some m k n b some = by_put m k b (λ j o. IsSome (get m j) → IsSome o) (λ is. refl) (λ j apart is. is) n some

notifying-some : (m : FinMap nat_cmp Bool) (q : List Listed) (n : ℕ) → IsSome (get m n) → IsSome (get (notifying m q) n)
notifying-some m [] n some = some
notifying-some m (e ∷ q) n some = notifying-some (insert m e.0 false) q n (insert-some m e.0 n false some)

notifying-waited : (m : FinMap nat_cmp Bool) (q : List Listed) (n : ℕ) → IsSome (waker_under q n) → IsSome (get (notifying m q) n)
notifying-waited m [] n some = absurd (cc)
notifying-waited m (e ∷ q) n some = elim (e.0 == n) as (λ b. (e.0 == n) ≡ b → IsSome (if b then Some e.1 else waker_under q n) → IsSome (get (notifying (insert m e.0 false) q) n)) [
  | true ↦ λ is had. notifying-some (insert m e.0 false) q n (ap is_some (ap (get (insert m e.0 false)) (sym (eqb-true e.0 n is)) ∙ get-there m e.0 false))
  | false ↦ λ is had. notifying-waited (insert m e.0 false) q n had
] refl some

-- a number that was notified after all who wait were was so before, or waited
notifying-from : (m : FinMap nat_cmp Bool) (q : List Listed) (n : ℕ) (b : Bool) → get (notifying m q) n ≡ Some b → (get m n ≡ Some b) ⊎ (IsSome (waker_under q n) × (b ≡ false))
notifying-from m [] n b is = inl is
notifying-from m (e ∷ q) n b is = at (e.0 == n) refl (notifying-from (insert m e.0 false) q n b is)
  where
    at : (t : Bool) → (e.0 == n) ≡ t → (get (insert m e.0 false) n ≡ Some b) ⊎ (IsSome (waker_under q n) × (b ≡ false)) → (get m n ≡ Some b) ⊎ (IsSome (if t then Some e.1 else waker_under q n) × (b ≡ false))
    at true same (inl told) = inr (refl, sym (inside (sym (ap (get (insert m e.0 false)) (sym (eqb-true e.0 n same)) ∙ get-there m e.0 false) ∙ told)))
    at true same (inr waited) = inr (refl, waited.1)
    at false other (inl told) = inl (sym (get-other m e.0 n false (eqb-false e.0 n other)) ∙ told)
    at false other (inr waited) = inr waited

-- the wait that waits under a number
waits_of : (ws : Names WaitEntry) (q : List Listed) (n : ℕ) → AreOf ws q → IsSome (waker_under q n) → (f : ℕ) × (x : WaitEntry) × (get ws f ≡ Some x) × (x.number ≡ Some n)
waits_of ws [] n are some = absurd (cc)
waits_of ws (e ∷ q) n are some = at (waits_of ws q n are.1) (e.0 == n) refl some
  where
    at : (IsSome (waker_under q n) → (f : ℕ) × (x : WaitEntry) × (get ws f ≡ Some x) × (x.number ≡ Some n)) → (b : Bool) → (e.0 == n) ≡ b → IsSome (if b then Some e.1 else waker_under q n)
        → (f : ℕ) × (x : WaitEntry) × (get ws f ≡ Some x) × (x.number ≡ Some n)
    at behind true is had = (e.1.name, are.0.0, are.0.1, are.0.2 ∙ ap (λ m. Some m) (eqb-true e.0 n is))
    at behind false is had = behind had

-- a wait that was notified stays, where another changed
told_still : (ws ws' : Names WaitEntry) (f n : ℕ) (b : Bool) → ((g : ℕ) → (f ≡ g → ⊥) → get ws' g ≡ get ws g) → ((x : WaitEntry) → get ws f ≡ Some x → x.number ≡ Some n → ⊥) → IsTold ws n b → IsTold ws' n b
told_still ws ws' f n b others mine told = (told.0, told.1, others told.0 (λ same. mine told.1 (ap (get ws) same ∙ told.2) told.3) ∙ told.2, told.3, told.4)

-- ---- no two have one number
with-none : (q : List Listed) (n m : ℕ) (k : NamedWaker) → waker_under q m ≡ None → waker_under (with_waker q n k) m ≡ None
with-none [] n m k none = refl
with-none (e ∷ q) n m k none = elim (e.0 == m) as (λ b. (if b then Some e.1 else waker_under q m) ≡ None → (if b then Some (if e.0 == n then k else e.1) else waker_under (with_waker q n k) m) ≡ None) [ true ↦ λ no. absurd (cc) | false ↦ with-none q n m k ] none

distinct_with : (q : List Listed) (n : ℕ) (k : NamedWaker) → AreApart q → AreApart (with_waker q n k)
distinct_with [] n k apart = tt
distinct_with (e ∷ q) n k apart = (with-none q n e.0 k apart.0, distinct_with q n k apart.1)

without-none : (q : List Listed) (n m : ℕ) → waker_under q m ≡ None → waker_under (without_wait q n) m ≡ None
without-none q n m none = elim (cases_eq n m) [ inl same ↦ ap (waker_under (without_wait q n)) (sym same) ∙ without-gone q n | inr differs ↦ without-other q n m differs ∙ none ]

distinct_without : (q : List Listed) (n : ℕ) → AreApart q → AreApart (without_wait q n)
distinct_without [] n apart = tt
distinct_without (e ∷ q) n apart = elim (e.0 == n) as (λ b. AreApart (if b then without_wait q n else e ∷ without_wait q n)) [ true ↦ distinct_without q n apart.1 | false ↦ (without-none q n e.0 apart.0, distinct_without q n apart.1) ]

end-other : (q : List Listed) (n m : ℕ) (k : NamedWaker) → (n ≡ m → ⊥) → waker_under (q ++ (n, k) ∷ []) m ≡ waker_under q m
end-other [] n m k apart = ap (λ b. if b then Some k else None) (ne_eqb n m apart)
end-other (e ∷ q) n m k apart = ap (λ o. if e.0 == m then Some e.1 else o) (end-other q n m k apart)

distinct_end : (q : List Listed) (n : ℕ) (k : NamedWaker) → waker_under q n ≡ None → AreApart q → AreApart (q ++ (n, k) ∷ [])
distinct_end [] n k none apart = (refl, tt)
distinct_end (e ∷ q) n k none apart = elim (e.0 == n) as (λ b. (e.0 == n) ≡ b → (if b then Some e.1 else waker_under q n) ≡ None → AreApart (e ∷ q ++ (n, k) ∷ [])) [
  | true ↦ λ is no. absurd (cc)
  | false ↦ λ is no. (end-other q n e.0 k (λ same. eqb-false e.0 n is (sym same)) ∙ apart.0, distinct_end q n k no apart.1)
] refl none

-- one of number n fewer waits
without-absent : (q : List Listed) (n : ℕ) → waker_under q n ≡ None → without_wait q n ≡ q
without-absent [] n none = refl
without-absent (e ∷ q) n none = elim (e.0 == n) as (λ b. (if b then Some e.1 else waker_under q n) ≡ None → (if b then without_wait q n else e ∷ without_wait q n) ≡ e ∷ q) [ true ↦ λ no. absurd (cc) | false ↦ λ no. ap (λ r. e ∷ r) (without-absent q n no) ] none

pub left_length : (q : List Listed) (n : ℕ) → AreApart q → IsSome (waker_under q n) → length (without_wait q n) + 1 ≡ length q
left_length [] n apart some = absurd (cc)
left_length (e ∷ q) n apart some = elim (e.0 == n) as (λ b. (e.0 == n) ≡ b → IsSome (if b then Some e.1 else waker_under q n) → length (if b then without_wait q n else e ∷ without_wait q n) + 1 ≡ length (e ∷ q)) [
  | true ↦ λ is had. let same = ap (λ (r : List Listed). length r) (without-absent q n (ap (waker_under q) (sym (eqb-true e.0 n is)) ∙ apart.0)) in omega (arith, same)
  | false ↦ λ is had. omega (arith, left_length q n apart.1 had)
] refl some

pub some_length : (q : List Listed) (n : ℕ) → IsSome (waker_under q n) → 1 ≤ length q
some_length [] n some = absurd (cc)
some_length (e ∷ q) n some = omega arith

-- ---- a new condition variable has no wait
pub new_listed : AreListed (record { condvar = record { waiting = []; notified = empty; wakes = [] }; waits = 0 }) empty
new_listed = record {
  waits = tt;
  known = λ f x there. absurd (nothing_at WaitEntry f x there);
  apart = λ f g x y n there. absurd (nothing_at WaitEntry f x there);
  notified = λ n b is. absurd (nothing_at Bool n b is);
  unnotified = λ f x there. absurd (nothing_at WaitEntry f x there);
  distinct = tt;
  quiet = refl;
  counted = sym (len-empty nat_cmp WaitEntry);
}

module _ (e : KeptCondvar) (ws : Names WaitEntry) (good : AreListed e ws) where
  abbrev queue : List Listed
  queue = e.condvar.waiting

  -- ---- a wait is made
  pub begins : (f : ℕ) (x : WaitEntry) → get ws f ≡ None → x.number ≡ None → AreListed (record e { waits = e.waits + 1 }) (insert ws f x)
  begins f x none unlisted = record {
    waits = of_changed ws (insert ws f x) f queue good.waits (unlisted_apart ws f queue good.waits (λ y there. absurd (cc))) (λ g differs. get-other ws f g x differs);
    known = by_put ws f x (λ g o. (y : WaitEntry) → o ≡ Some y → (n : ℕ) → y.number ≡ Some n → Knows e.condvar n × (y.polled ≡ true))
        (λ y is n number. absurd (let same : x ≡ y = inside is in let no : y.number ≡ None = ap (λ (y : WaitEntry). y.number) (sym same) ∙ unlisted in cc)) (λ g differs y is n number. good.known g y is n number);
    apart = apart_put ws f x good.apart (λ n number. absurd (cc));
    notified = λ n b is. let had = good.notified n b is in (had.0, told_still ws (insert ws f x) f n b (λ g differs. get-other ws f g x differs) (λ y there. absurd (cc)) had.1);
    unnotified = by_put ws f x (λ g o. (y : WaitEntry) → o ≡ Some y → (n : ℕ) → y.number ≡ Some n → IsSome (waker_under queue n) → y.alone ≡ false)
        (λ y is n number. absurd (let same : x ≡ y = inside is in let no : y.number ≡ None = ap (λ (y : WaitEntry). y.number) (sym same) ∙ unlisted in cc)) (λ g differs y is n number waited. good.unnotified g y is n number waited);
    distinct = good.distinct;
    quiet = good.quiet;
    counted = omega (arith, good.counted, len-new ws f x none);
  }

  -- ---- each that waits is notified
  pub notifies_each : AreListed (record e { condvar = record { waiting = []; notified = notifying e.condvar.notified queue; wakes = [] } }) ws
  notifies_each = record {
    waits = tt;
    known = λ f x there n number. let known = good.known f x there n number in (
      inr (elim known.0 [ inl waited ↦ notifying-waited e.condvar.notified queue n waited | inr told ↦ notifying-some e.condvar.notified queue n told ]),
      known.1,
    );
    apart = good.apart;
    notified = λ n b is. (
      refl,
      elim (notifying-from e.condvar.notified queue n b is) [
        | inl told ↦ (good.notified n b told).1
        | inr waited ↦ (let one = waits_of ws queue n good.waits waited.0 in (one.0, one.1, one.2, one.3, good.unnotified one.0 one.1 one.2 n one.3 waited.0 ∙ sym waited.1))
      ],
    );
    unnotified = λ f x there n number waited. absurd (cc);
    distinct = tt;
    quiet = refl;
    counted = good.counted;
  }

  -- ---- the first that waits is notified alone
  module _ (n w f : ℕ) (others : List Listed) (first : queue ≡ (n, record { name = f; waker = w }) ∷ others) where
    first_are : IsOf ws (n, record { name = f; waker = w }) × AreOf ws others
    first_are = subst (AreOf ws) first good.waits

    pub first_there : (x : WaitEntry) × (get ws f ≡ Some x) × (x.number ≡ Some n)
    first_there = first_are.0

    pub notifies_first : (x : WaitEntry) → get ws f ≡ Some x → AreListed (record e { condvar = record { waiting = others; notified = insert e.condvar.notified n true; wakes = [] } }) (insert ws f (record x { alone = true }))
    notifies_first x there = record {
      waits = of_over ws f x (record x { alone = true }) others there refl first_are.1;
      known = by_put ws f (record x { alone = true }) (λ g o. (y : WaitEntry) → o ≡ Some y → (m : ℕ) → y.number ≡ Some m → Knows now m × (y.polled ≡ true))
          (λ y is m number. let same : record x { alone = true } ≡ y = inside is in rw (← same) (still f x there m (ap (λ (y : WaitEntry). y.number) same ∙ number)))
          (λ g differs y is m number. still g y is m number);
      apart = apart_put ws f (record x { alone = true }) good.apart (λ m number g z is same. good.apart f g x z m there is number same);
      notified = by_put e.condvar.notified n true (λ m o. (b : Bool) → o ≡ Some b → (waker_under others m ≡ None) × IsTold (insert ws f (record x { alone = true })) m b)
          (λ b is. ((subst (λ q. AreApart q) first good.distinct).0, (f, record x { alone = true }, get-there ws f (record x { alone = true }), mine, inside is)))
          (λ m differs b is. let had = good.notified m b is in (
            sym (ap (λ t. if t then Some (record { name = f; waker = w }) else waker_under others m) (ne_eqb n m differs)) ∙ ap (λ q. waker_under q m) (sym first) ∙ had.0,
            told_still ws (insert ws f (record x { alone = true })) f m b (λ g other. get-other ws f g (record x { alone = true }) other)
                (λ y also number. differs (inside (sym mine ∙ ap (λ (z : WaitEntry). z.number) (inside (sym there ∙ also)) ∙ number))) had.1,
          ));
      unnotified = by_put ws f (record x { alone = true }) (λ g o. (y : WaitEntry) → o ≡ Some y → (m : ℕ) → y.number ≡ Some m → IsSome (waker_under others m) → y.alone ≡ false)
          (λ y is m number waited. absurd (
          let its : n ≡ m = inside (sym mine ∙ ap (λ (z : WaitEntry). z.number) (inside is) ∙ number) in
          let none : waker_under others m ≡ None = ap (waker_under others) (sym its) ∙ (subst (λ q. AreApart q) first good.distinct).0 in
          cc))
          (λ g differs y is m number waited. good.unnotified g y is m number (behind m waited));
      distinct = (subst (λ q. AreApart q) first good.distinct).1;
      quiet = refl;
      counted = omega (arith, good.counted, len-over ws f (record x { alone = true }) x there);
    }
      where
        now : Condvar NamedWaker
        now = record { waiting = others; notified = insert e.condvar.notified n true; wakes = [] }

        mine : x.number ≡ Some n
        mine = ap (λ (y : WaitEntry). y.number) (inside (sym there ∙ first_there.1)) ∙ first_there.2

        behind : (m : ℕ) → IsSome (waker_under others m) → IsSome (waker_under queue m)
        behind m waited = subst (λ q. IsSome (waker_under q m)) (sym first) (elim (n == m) as (λ b. IsSome (if b then Some (record { name = f; waker = w }) else waker_under others m)) [ true ↦ refl | false ↦ waited ])

        told : (m : ℕ) → Knows e.condvar m → Knows now m
        told m (inl waited) = elim (n == m) as (λ b. (n == m) ≡ b → IsSome (if b then Some (record { name = f; waker = w }) else waker_under others m) → Knows now m) [
          | true ↦ λ is some. inr (ap is_some (ap (get (insert e.condvar.notified n true)) (sym (eqb-true n m is)) ∙ get-there e.condvar.notified n true))
          | false ↦ λ is some. inl some
        ] refl (subst (λ q. IsSome (waker_under q m)) first waited)
        told m (inr had) = inr (insert-some e.condvar.notified n m true had)

        still : (g : ℕ) (y : WaitEntry) → get ws g ≡ Some y → (m : ℕ) → y.number ≡ Some m → Knows now m × (y.polled ≡ true)
        still g y is m number = let known = good.known g y is m number in (told m known.0, known.1)

  -- ---- one wait
  module _ (f : ℕ) (x : WaitEntry) (there : get ws f ≡ Some x) where
    -- it waits where it waits under its number
    pub waits_under : IsWaitingUnder e.condvar x.number → waits (listed_in queue) f ≡ true
    waits_under under = at x.number refl under
      where
        at : (number : Option ℕ) → x.number ≡ number → IsWaitingUnder e.condvar number → waits (listed_in queue) f ≡ true
        at None is under = absurd under
        at (Some n) is under = sym (listed_waits ws good.apart f n x there is queue good.waits) ∙ under

    pub waits_not : (IsWaitingUnder e.condvar x.number → ⊥) → waits (listed_in queue) f ≡ false
    waits_not not = at x.number refl not
      where
        by : (b : Bool) → (b ≡ true → ⊥) → b ≡ false
        by true wrong = absurd (wrong refl)
        by false wrong = refl

        at : (number : Option ℕ) → x.number ≡ number → (IsWaitingUnder e.condvar number → ⊥) → waits (listed_in queue) f ≡ false
        at None is not = unlisted_apart ws f queue good.waits (λ y also. ap (λ (z : WaitEntry). z.number) (inside (sym also ∙ there)) ∙ is)
        at (Some n) is not = by _ (λ waited. not (listed_waits ws good.apart f n x there is queue good.waits ∙ waited))

    -- a number that is listed and does not wait was notified
    pub was_notified : (IsWaitingUnder e.condvar x.number → ⊥) → (n : ℕ) → x.number ≡ Some n → IsSome (get e.condvar.notified n)
    was_notified not n number = elim (good.known f x there n number).0 [ inl waited ↦ absurd (not (subst (IsWaitingUnder e.condvar) (sym number) waited)) | inr told ↦ told ]

    -- it has another waker
    pub rewakes : (n w : ℕ) → x.number ≡ Some n → AreListed (record e { condvar = record e.condvar { waiting = with_waker queue n (record { name = f; waker = w }) } }) ws
    rewakes n w number = record {
      waits = of_with ws good.apart f n x there number w queue good.waits;
      known = λ g y is m same. let known = good.known g y is m same in (
        elim known.0 [ inl waited ↦ inl (with-there queue n m (record { name = f; waker = w }) ∙ waited) | inr told ↦ inr told ],
        known.1,
      );
      apart = good.apart;
      notified = λ m b is. let had = good.notified m b is in (with-none queue n m (record { name = f; waker = w }) had.0, had.1);
      unnotified = λ g y is m same waited. good.unnotified g y is m same (sym (with-there queue n m (record { name = f; waker = w })) ∙ waited);
      distinct = distinct_with queue n (record { name = f; waker = w }) good.distinct;
      quiet = good.quiet;
      counted = good.counted;
    }

    -- another has another number
    other_number : (g : ℕ) (y : WaitEntry) → (f ≡ g → ⊥) → get ws g ≡ Some y → (m : ℕ) → y.number ≡ Some m → x.number ≡ Some m → ⊥
    other_number g y differs is m number mine = differs (good.apart f g x y m there is mine number)

    -- it leaves those who wait, and ends
    pub leaves : (n : ℕ) → x.number ≡ Some n → IsSome (waker_under queue n) → AreListed (record e { condvar = record e.condvar { waiting = without_wait queue n }; waits = e.waits - 1 }) (remove ws f)
    leaves n number waited = record {
      waits = of_changed ws (remove ws f) f (without_wait queue n) (of_without ws n queue good.waits)
          (ap (λ q. waits q f) (listed_without ws good.apart f n x there number queue good.waits) ∙ gone (listed_in queue)) (λ g differs. get-removed_other ws f g differs);
      known = by_gone ws f (λ g o. (y : WaitEntry) → o ≡ Some y → (m : ℕ) → y.number ≡ Some m → Knows (record e.condvar { waiting = without_wait queue n }) m × (y.polled ≡ true)) (λ y is. absurd (cc))
          (λ g differs y is m same. let known = good.known g y is m same in (
            elim known.0 [
              | inl waited ↦ inl (ap is_some (without-other queue n m (λ alike. other_number g y differs is m same (number ∙ ap (λ j. Some j) alike))) ∙ waited)
              | inr told ↦ inr told
            ],
            known.1,
          ));
      distinct = distinct_without queue n good.distinct;
      apart = apart_gone ws f good.apart;
      notified = λ m b is. let had = good.notified m b is in (
        without-none queue n m had.0,
        told_still ws (remove ws f) f m b (λ g differs. get-removed_other ws f g differs) (λ y also same. absurd (
            let its : n ≡ m = inside (sym number ∙ ap (λ (z : WaitEntry). z.number) (inside (sym there ∙ also)) ∙ same) in
            let none : waker_under queue n ≡ None = ap (waker_under queue) its ∙ had.0 in
            cc)) had.1,
      );
      unnotified = by_gone ws f (λ g o. (y : WaitEntry) → o ≡ Some y → (m : ℕ) → y.number ≡ Some m → IsSome (waker_under (without_wait queue n) m) → y.alone ≡ false) (λ y is. absurd (cc))
          (λ g differs y is m same still. good.unnotified g y is m same (sym (ap is_some (without-other queue n m (λ alike. other_number g y differs is m same (number ∙ ap (λ j. Some j) alike)))) ∙ still));
      quiet = good.quiet;
      counted = omega (arith, good.counted, len-some ws f x there, len-gone ws f x there);
    }
      where
        gone : (q : named.Waiting) → waits (named.without q f) f ≡ false
        gone [] = refl
        gone (d ∷ q) = elim (d.0 == f) as (λ b. (d.0 == f) ≡ b → waits (cond b (named.without q f) (d ∷ named.without q f)) f ≡ false) [
          | true ↦ λ is. gone q
          | false ↦ λ is. ap (λ b. is_some (cond b (Some d.1) (named.waker_for (named.without q f) f))) is ∙ gone q
        ] refl

    -- ---- it does not wait
    module _ (idle : waits (listed_in queue) f ≡ false) where
      others_known : (g : ℕ) → (f ≡ g → ⊥) → (y : WaitEntry) → get ws g ≡ Some y → (m : ℕ) → y.number ≡ Some m → Knows (record e.condvar { notified = forgotten e.condvar.notified x.number }) m × (y.polled ≡ true)
      others_known g differs y is m number = let known = good.known g y is m number in (
        elim known.0 [ inl waited ↦ inl waited | inr told ↦ inr (ap is_some (forgotten-other e.condvar.notified x.number m (other_number g y differs is m number)) ∙ told) ],
        known.1,
      )

      -- of another it is known still that it was notified
      others_told : (ws' : Names WaitEntry) → ((g : ℕ) → (f ≡ g → ⊥) → get ws' g ≡ get ws g) → (m : ℕ) (b : Bool) → get (forgotten e.condvar.notified x.number) m ≡ Some b → (get e.condvar.notified m ≡ Some b) × (waker_under queue m ≡ None) × IsTold ws' m b
      others_told ws' others m b is =
          let left = forgotten-there e.condvar.notified x.number m b is in
          let had = good.notified m b left.0 in (
            left.0,
            had.0,
            told_still ws ws' f m b others (λ y also number. left.1 (ap (λ (z : WaitEntry). z.number) (inside (sym there ∙ also)) ∙ number)) had.1,
          )

      -- it is listed no more
      pub asks : (y : WaitEntry) → y.number ≡ None → AreListed (forgotten_under e x.number) (insert ws f y)
      asks y unlisted = record {
        waits = of_changed ws (insert ws f y) f queue good.waits idle (λ g differs. get-other ws f g y differs);
        known = by_put ws f y (λ g o. (z : WaitEntry) → o ≡ Some z → (m : ℕ) → z.number ≡ Some m → Knows (record e.condvar { notified = forgotten e.condvar.notified x.number }) m × (z.polled ≡ true))
            (λ z is m number. absurd (let same : y ≡ z = inside is in let no : z.number ≡ None = ap (λ (y : WaitEntry). y.number) (sym same) ∙ unlisted in cc)) others_known;
        distinct = good.distinct;
        apart = apart_put ws f y good.apart (λ n number. absurd (cc));
        notified = λ m b is. let had = others_told (insert ws f y) (λ g differs. get-other ws f g y differs) m b is in (had.1, had.2);
        unnotified = by_put ws f y (λ g o. (z : WaitEntry) → o ≡ Some z → (m : ℕ) → z.number ≡ Some m → IsSome (waker_under queue m) → z.alone ≡ false)
            (λ z is m number. absurd (let same : y ≡ z = inside is in let no : z.number ≡ None = ap (λ (y : WaitEntry). y.number) (sym same) ∙ unlisted in cc)) (λ g differs z is m number waited. good.unnotified g z is m number waited);
        quiet = good.quiet;
        counted = omega (arith, good.counted, len-over ws f y x there);
      }

      -- it ends
      pub is_over : AreListed (record (forgotten_under e x.number) { waits = e.waits - 1 }) (remove ws f)
      is_over = record {
        waits = of_changed ws (remove ws f) f queue good.waits idle (λ g differs. get-removed_other ws f g differs);
        known = by_gone ws f (λ g o. (z : WaitEntry) → o ≡ Some z → (m : ℕ) → z.number ≡ Some m → Knows (record e.condvar { notified = forgotten e.condvar.notified x.number }) m × (z.polled ≡ true)) (λ z is. absurd (cc)) others_known;
        distinct = good.distinct;
        apart = apart_gone ws f good.apart;
        notified = λ m b is. let had = others_told (remove ws f) (λ g differs. get-removed_other ws f g differs) m b is in (had.1, had.2);
        unnotified = by_gone ws f (λ g o. (z : WaitEntry) → o ≡ Some z → (m : ℕ) → z.number ≡ Some m → IsSome (waker_under queue m) → z.alone ≡ false) (λ z is. absurd (cc)) (λ g differs z is m number waited. good.unnotified g z is m number waited);
        quiet = good.quiet;
        counted = omega (arith, good.counted, len-some ws f x there, len-gone ws f x there);
      }

      -- it is listed, last of all
      pub lists : (place w : ℕ) → waker_under queue place ≡ None → get e.condvar.notified place ≡ None → (y : WaitEntry) → y.number ≡ Some place → y.polled ≡ true → y.alone ≡ false
          → AreListed (forgotten_under (record e { condvar = record e.condvar { waiting = queue ++ (place, record { name = f; waker = w }) ∷ [] } }) x.number) (insert ws f y)
      lists place w free quiet y listed polled with_all = record {
        waits = of_end (insert ws f y) queue (place, record { name = f; waker = w }) (of_changed ws (insert ws f y) f queue good.waits idle (λ g differs. get-other ws f g y differs)) (y, get-there ws f y, listed);
        known = by_put ws f y (λ g o. (z : WaitEntry) → o ≡ Some z → (m : ℕ) → z.number ≡ Some m
            → Knows (record e.condvar { waiting = queue ++ (place, record { name = f; waker = w }) ∷ []; notified = forgotten e.condvar.notified x.number }) m × (z.polled ≡ true))
            (λ z is m number. let same : y ≡ z = inside is in
            let its : place ≡ m = inside (sym listed ∙ ap (λ (y : WaitEntry). y.number) same ∙ number) in (
              inl (ap is_some (ap (waker_under (queue ++ (place, record { name = f; waker = w }) ∷ [])) (sym its) ∙ end-there queue place (record { name = f; waker = w }) free)),
              ap (λ (y : WaitEntry). y.polled) (sym same) ∙ polled,
            ))
            (λ g differs z is m number. let known = others_known g differs z is m number in (
              elim known.0 [ inl waited ↦ inl (end-some queue m (place, record { name = f; waker = w }) waited) | inr told ↦ inr told ],
              known.1,
            ));
        notified = λ m b is.
            let had = others_told (insert ws f y) (λ g differs. get-other ws f g y differs) m b is in (
              end-other queue place m (record { name = f; waker = w }) (λ same. absurd (let none : get e.condvar.notified m ≡ None = ap (get e.condvar.notified) (sym same) ∙ quiet in let some = had.0 in cc)) ∙ had.1,
              had.2,
            );
        unnotified = by_put ws f y (λ g o. (z : WaitEntry) → o ≡ Some z → (m : ℕ) → z.number ≡ Some m → IsSome (waker_under (queue ++ (place, record { name = f; waker = w }) ∷ []) m) → z.alone ≡ false)
            (λ z is m number waited. ap (λ (z : WaitEntry). z.alone) (sym (inside is)) ∙ with_all)
            (λ g differs z is m number waited. good.unnotified g z is m number (sym (ap is_some (end-other queue place m (record { name = f; waker = w }) (λ same. fresh m same (good.known g z is m number).0))) ∙ waited));
        distinct = distinct_end queue place (record { name = f; waker = w }) free good.distinct;
        apart = apart_put ws f y good.apart (λ n number g z is same. absurd (fresh n (inside (sym listed ∙ number)) (good.known g z is n same).0));
        quiet = good.quiet;
        counted = omega (arith, good.counted, len-over ws f y x there);
      }
        where
          fresh : (n : ℕ) → place ≡ n → Knows e.condvar n → ⊥
          fresh n same (inl waited) = let none : waker_under queue n ≡ None = ap (waker_under queue) (sym same) ∙ free in absurd (cc)
          fresh n same (inr told) = let none : get e.condvar.notified n ≡ None = ap (get e.condvar.notified) (sym same) ∙ quiet in absurd (cc)

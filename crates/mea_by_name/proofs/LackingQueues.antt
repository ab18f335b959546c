-- queues with what each lacks: what a poll, an end and a pour do to who waits
use Rattle.std.proofs.Common.{◌≡◌, ℕ, zero, suc, ◌+◌, ◌-◌, ◌==◌, ◌++◌, ◌⊎◌, inl, inr, true, false, cond, length, List, [], ◌∷◌, map, filter, min, nat_lt, Some, refl, ap, subst, arith}
use Rattle.std.specs.List.{Contains}
use Rattle.std.proofs.lemmas.Bool.Decides.{nat_tests}
use Rattle.std.proofs.lemmas.List.Elements.{Contains-push, Contains-append_left, Contains-append_right}
use Rattle.mea_base.specs.Queue.{lacks_after, waiting_after, granted_in}
use Rattle.mea_by_name.specs.NamedQueue.{waker_for, with_waker, without}
use Rattle.mea_by_name.specs.LackingQueue.{Lacking, who, rewoken, leaving, woken_by}
use Rattle.mea_by_name.proofs.NamedQueues.{Local, local_appended, local_with, local_without, length-wakers}

pub who-append : (q p : Lacking) → who (q ++ p) ≡ who q ++ who p
who-append [] p = refl
who-append (e ∷ q) p = ap (λ ws. e.0 ∷ ws) (who-append q p)

pub who-rewoken : (q : Lacking) (f w : ℕ) → who (rewoken q f w) ≡ with_waker (who q) f w
who-rewoken [] f w = refl
who-rewoken (e ∷ q) f w = ap (λ ws. (e.0.0, cond (e.0.0 == f) w e.0.1) ∷ ws) (who-rewoken q f w)

pub who-leaving : (q : Lacking) (f : ℕ) → who (leaving q f) ≡ without (who q) f
who-leaving [] f = refl
who-leaving (e ∷ q) f = elim (e.0.0 == f) as (λ b. who (cond b (leaving q f) (e ∷ leaving q f)) ≡ cond b (without (who q) f) (e.0 ∷ without (who q) f)) [
  | true ↦ who-leaving q f
  | false ↦ ap (λ ws. e.0 ∷ ws) (who-leaving q f)
]

pub length-who : (q : Lacking) → length (who q) ≡ length q
length-who [] = refl
length-who (e ∷ q) = omega (arith, length-who q)

-- ---- pours
pub some_or_none : (k : ℕ) → ((nat_lt 0 k ≡ true) × ((k == 0) ≡ false)) ⊎ ((nat_lt 0 k ≡ false) × ((k == 0) ≡ true))
some_or_none zero = inr (refl, refl)
some_or_none (suc k) = inl (grind (arith, nat_tests), grind (arith, nat_tests))

module _ {A : Type 0} where
  length-parts : (before n : ℕ) (q : List (A × ℕ))
      → length (filter (λ (e : A × ℕ). nat_lt 0 e.1) (lacks_after before q n)) + length (filter (λ (e : A × ℕ). e.1 == 0) (lacks_after before q n)) ≡ length q
  length-parts before n [] = refl
  length-parts before n (e ∷ q) = elim (some_or_none (min e.1 (before + e.1 - n))) [
    | inl is ↦ rw (is.0, is.1) (omega (arith, length-parts (before + e.1) n q))
    | inr is ↦ rw (is.0, is.1) (omega (arith, length-parts (before + e.1) n q))
  ]

  length-firsts : (q : List (A × ℕ)) → length (map {A = A × ℕ} (λ e. e.0) q) ≡ length q
  length-firsts [] = refl
  length-firsts (e ∷ q) = omega (arith, length-firsts q)

  -- who is granted waits no more
  pub poured_parts : (q : List (A × ℕ)) (n : ℕ) → length (waiting_after q n) + length (granted_in q n) ≡ length q
  poured_parts q n = omega (arith, length-parts 0 n q, length-firsts (filter (λ (e : A × ℕ). e.1 == 0) (lacks_after 0 q n)))

-- the wakers of those who lack nothing any more
abbrev wakers_in : Lacking → List ℕ
wakers_in q = map (λ (e : ℕ × ℕ). e.1) (map {A = (ℕ × ℕ) × ℕ} (λ e. e.0) (filter (λ (e : (ℕ × ℕ) × ℕ). e.1 == 0) q))

-- who waits, waits on or is woken
poured_keeps : (q : Lacking) (before n f w : ℕ) → waker_for (who q) f ≡ Some w
    → (waker_for (who (filter (λ (e : (ℕ × ℕ) × ℕ). nat_lt 0 e.1) (lacks_after before q n))) f ≡ Some w) ⊎ Contains (wakers_in (lacks_after before q n)) w
poured_keeps [] before n f w is = absurd (cc)
poured_keeps (e ∷ q) before n f w is = elim (some_or_none (min e.1 (before + e.1 - n))) [
  | inl still ↦ rw (still.0, still.1) (elim (e.0.0 == f)
      as (λ b. cond b (Some e.0.1) (waker_for (who q) f) ≡ Some w
      → (cond b (Some e.0.1) (waker_for (who (filter (λ (e : (ℕ × ℕ) × ℕ). nat_lt 0 e.1) (lacks_after (before + e.1) q n))) f) ≡ Some w) ⊎ Contains (wakers_in (lacks_after (before + e.1) q n)) w) [
        | true ↦ λ h. inl h
        | false ↦ λ h. poured_keeps q (before + e.1) n f w h
      ] is)
  | inr whole ↦ rw (whole.0, whole.1) (elim (e.0.0 == f)
      as (λ b. cond b (Some e.0.1) (waker_for (who q) f) ≡ Some w
      → (waker_for (who (filter (λ (e : (ℕ × ℕ) × ℕ). nat_lt 0 e.1) (lacks_after (before + e.1) q n))) f ≡ Some w) ⊎ Contains (e.0.1 ∷ wakers_in (lacks_after (before + e.1) q n)) w) [
        | true ↦ λ h. let same : e.0.1 ≡ w = cc in
            inr (Contains-append_left (e.0.1 ∷ []) (wakers_in (lacks_after (before + e.1) q n)) w (subst (Contains (e.0.1 ∷ [])) same (Contains-push [] e.0.1)))
        | false ↦ λ h. elim (poured_keeps q (before + e.1) n f w h) [
          | inl kept ↦ inl kept
          | inr woken ↦ inr (Contains-append_right (e.0.1 ∷ []) (wakers_in (lacks_after (before + e.1) q n)) w woken)
        ]
      ] is)
]

pub local_poured : (q : Lacking) (n k : ℕ) → Local (who q) (who (waiting_after q n)) (woken_by q n) k 0
local_poured q n k =
    let parts = poured_parts q n in
    let before = length-who q in
    let after = length-who (waiting_after q n) in
    let woken = length-wakers (granted_in q n) in
    record {
      keeps = λ f w apart is. poured_keeps q 0 n f w is;
      fits = omega (arith, parts, before, after, woken);
      most = omega (arith, parts, before, after, woken);
    }

-- ---- the same of the other changes
pub local_pushed : (q : Lacking) (f w l : ℕ) → Local (who q) (who (q ++ ((f, w), l) ∷ [])) [] f 1
local_pushed q f w l = rw (who-append q (((f, w), l) ∷ [])) (local_appended (who q) f w)

pub local_rewoken : (q : Lacking) (f w : ℕ) → Local (who q) (who (rewoken q f w)) [] f 0
local_rewoken q f w = rw (who-rewoken q f w) (local_with (who q) f w)

-- f leaves, and what it was paid is poured
pub local_left : (q : Lacking) (f n : ℕ) → Local (who q) (who (waiting_after (leaving q f) n)) (woken_by (leaving q f) n) f 0
local_left q f n =
    let left : Local (who q) (who (leaving q f)) [] f 0 = rw (who-leaving q f) (local_without (who q) f) in
    let rest = local_poured (leaving q f) n f in
    record {
      keeps = λ g w apart is. elim (left.keeps g w apart is) [
        | inl kept ↦ rest.keeps g w apart kept
        | inr woken ↦ absurd (let few = woken.1 in omega arith)
      ];
      fits = omega (arith, left.fits, rest.fits);
      most = omega (arith, left.fits, rest.most);
    }

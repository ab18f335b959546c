-- queues by name: what a poll, an end and a grant do to who waits
use Rattle.std.proofs.Common.{◌≡◌, ℕ, ◌+◌, ◌≤◌, ◌==◌, ◌++◌, ◌⊎◌, inl, inr, Bool, true, false, cond, length, List, [], ◌∷◌, Some, None, is_some, refl, ap, sym, subst, ◌∙◌, arith, map}
use Rattle.std.specs.List.{Contains}
use Rattle.std.proofs.lemmas.Bool.{eqb-true, eq-eqb, ne_eqb}
use Rattle.std.proofs.lemmas.List.{length-append}
use Rattle.std.proofs.lemmas.List.Elements.{Contains-push, Contains-append_left, Contains-append_right}
use Rattle.mea_by_name.specs.NamedQueue.{Waiting, waker_for, waits, with_waker, registering, without}

-- ---- at the one that is named
pub appended-there : (q : Waiting) (f w : ℕ) → waits q f ≡ false → waker_for (q ++ (f, w) ∷ []) f ≡ Some w
appended-there [] f w = λ none. ap (λ b. cond b (Some w) None) (eq-eqb f f refl)
appended-there (e ∷ q) f w = elim (e.0 == f) as (λ b. is_some (cond b (Some e.1) (waker_for q f)) ≡ false → cond b (Some e.1) (waker_for (q ++ (f, w) ∷ []) f) ≡ Some w) [
  | true ↦ λ none. absurd (cc)
  | false ↦ λ none. appended-there q f w none
]

pub with_waker-there : (q : Waiting) (f w : ℕ) → waits q f ≡ true → waker_for (with_waker q f w) f ≡ Some w
with_waker-there [] f w = λ some. absurd (cc)
with_waker-there (e ∷ q) f w = elim (e.0 == f) as (λ b. is_some (cond b (Some e.1) (waker_for q f)) ≡ true → cond b (Some (cond b w e.1)) (waker_for (with_waker q f w) f) ≡ Some w) [
  | true ↦ λ some. refl
  | false ↦ λ some. with_waker-there q f w some
]

pub registering-there : (q : Waiting) (f w : ℕ) → waker_for (registering q f w) f ≡ Some w
registering-there [] f w = ap (λ b. cond b (Some w) None) (eq-eqb f f refl)
registering-there (e ∷ q) f w = elim (e.0 == f) as (λ b. (e.0 == f) ≡ b → waker_for (cond b ((e.0, w) ∷ q) (e ∷ registering q f w)) f ≡ Some w) [
  | true ↦ λ is. ap (λ b. cond b (Some w) (waker_for q f)) is
  | false ↦ λ is. ap (λ b. cond b (Some e.1) (waker_for (registering q f w) f)) is ∙ registering-there q f w
] refl

pub waits-some : (q : Waiting) (f w : ℕ) → waker_for q f ≡ Some w → waits q f ≡ true
waits-some q f w is = ap is_some is

-- ---- at all others
pub appended-other : (q : Waiting) (f w g : ℕ) → (f ≡ g → ⊥) → waker_for (q ++ (f, w) ∷ []) g ≡ waker_for q g
appended-other [] f w g apart = ap (λ b. cond b (Some w) None) (ne_eqb f g apart)
appended-other (e ∷ q) f w g apart = ap (cond (e.0 == g) (Some e.1)) (appended-other q f w g apart)

pub with_waker-other : (q : Waiting) (f w g : ℕ) → (f ≡ g → ⊥) → waker_for (with_waker q f w) g ≡ waker_for q g
with_waker-other [] f w g apart = refl
with_waker-other (e ∷ q) f w g apart = ap (cond (e.0 == g) (Some (cond (e.0 == f) w e.1))) (with_waker-other q f w g apart) ∙ at (e.0 == g) refl
  where
    at : (b : Bool) → (e.0 == g) ≡ b → cond b (Some (cond (e.0 == f) w e.1)) (waker_for q g) ≡ cond b (Some e.1) (waker_for q g)
    at true is = ap (λ c. Some (cond c w e.1)) (ne_eqb e.0 f (λ same. apart (sym same ∙ eqb-true e.0 g is)))
    at false is = refl

pub registering-other : (q : Waiting) (f w g : ℕ) → (f ≡ g → ⊥) → waker_for (registering q f w) g ≡ waker_for q g
registering-other [] f w g apart = ap (λ b. cond b (Some w) None) (ne_eqb f g apart)
registering-other (e ∷ q) f w g apart = elim (e.0 == f) as (λ b. (e.0 == f) ≡ b → waker_for (cond b ((e.0, w) ∷ q) (e ∷ registering q f w)) g ≡ cond (e.0 == g) (Some e.1) (waker_for q g)) [
  | true ↦ λ is.
      let other : (e.0 == g) ≡ false = ne_eqb e.0 g (λ same. apart (sym (eqb-true e.0 f is) ∙ same)) in
      ap (λ b. cond b (Some w) (waker_for q g)) other ∙ sym (ap (λ b. cond b (Some e.1) (waker_for q g)) other)
  | false ↦ λ is. ap (cond (e.0 == g) (Some e.1)) (registering-other q f w g apart)
] refl

pub without-other : (q : Waiting) (f g : ℕ) → (f ≡ g → ⊥) → waker_for (without q f) g ≡ waker_for q g
without-other [] f g apart = refl
without-other (e ∷ q) f g apart = elim (e.0 == f) as (λ b. (e.0 == f) ≡ b → waker_for (cond b (without q f) (e ∷ without q f)) g ≡ waker_for (e ∷ q) g) [
  | true ↦ λ is. without-other q f g apart ∙ sym (ap (λ b. cond b (Some e.1) (waker_for q g)) (ne_eqb e.0 g (λ same. apart (sym (eqb-true e.0 f is) ∙ same))))
  | false ↦ λ is. ap (cond (e.0 == g) (Some e.1)) (without-other q f g apart)
] refl

-- ---- how many wait
pub length-with_waker : (q : Waiting) (f w : ℕ) → length (with_waker q f w) ≡ length q
length-with_waker [] f w = refl
length-with_waker (e ∷ q) f w = omega (arith, length-with_waker q f w)

pub length-registering : (q : Waiting) (f w : ℕ) → length (registering q f w) ≤ length q + 1
length-registering [] f w = omega arith
length-registering (e ∷ q) f w = elim (e.0 == f) as (λ b. length (cond b ((e.0, w) ∷ q) (e ∷ registering q f w)) ≤ length (e ∷ q) + 1) [
  | true ↦ omega arith
  | false ↦ omega (arith, length-registering q f w)
]

pub length-without : (q : Waiting) (f : ℕ) → length (without q f) ≤ length q
length-without [] f = omega arith
length-without (e ∷ q) f = elim (e.0 == f) as (λ b. length (cond b (without q f) (e ∷ without q f)) ≤ length (e ∷ q)) [
  | true ↦ omega (arith, length-without q f)
  | false ↦ omega (arith, length-without q f)
]

-- ---- what an event does to the queue of one object: all who wait, but k, keep their wakers or are woken, and
-- at most so many wait more
pub record Local (q q' : Waiting) (ws : List ℕ) (k extra : ℕ) : Type 0 where
  pub keeps : (f w : ℕ) → (k ≡ f → ⊥) → waker_for q f ≡ Some w → (waker_for q' f ≡ Some w) ⊎ Contains ws w
  pub fits : length q' + length ws ≤ length q + extra
  pub most : length ws ≤ length q

pub local_same : (q : Waiting) (k : ℕ) → Local q q [] k 0
local_same q k = record { keeps = λ f w apart is. inl is; fits = omega arith; most = omega arith }

pub local_appended : (q : Waiting) (f w : ℕ) → Local q (q ++ (f, w) ∷ []) [] f 1
local_appended q f w = record {
  keeps = λ g v apart is. inl (appended-other q f w g apart ∙ is);
  fits = omega (arith, length-append q ((f, w) ∷ []));
  most = omega arith;
}

pub local_with : (q : Waiting) (f w : ℕ) → Local q (with_waker q f w) [] f 0
local_with q f w = record {
  keeps = λ g v apart is. inl (with_waker-other q f w g apart ∙ is);
  fits = omega (arith, length-with_waker q f w);
  most = omega arith;
}

pub local_registering : (q : Waiting) (f w : ℕ) → Local q (registering q f w) [] f 1
local_registering q f w = record {
  keeps = λ g v apart is. inl (registering-other q f w g apart ∙ is);
  fits = omega (arith, length-registering q f w);
  most = omega arith;
}

pub local_without : (q : Waiting) (f : ℕ) → Local q (without q f) [] f 0
local_without q f = record {
  keeps = λ g v apart is. inl (without-other q f g apart ∙ is);
  fits = omega (arith, length-without q f);
  most = omega arith;
}

-- the first is woken, and waits no more
pub local_popped : (e : ℕ × ℕ) (q : Waiting) (k : ℕ) → Local (e ∷ q) q (e.1 ∷ []) k 0
local_popped e q k = record {
  keeps = λ f w apart. elim (e.0 == f) as (λ b. cond b (Some e.1) (waker_for q f) ≡ Some w → (waker_for q f ≡ Some w) ⊎ Contains (e.1 ∷ []) w) [
    | true ↦ λ is. let same : e.1 ≡ w = cc in inr (subst (Contains (e.1 ∷ [])) same (Contains-push [] e.1))
    | false ↦ λ is. inl is
  ];
  fits = omega arith;
  most = omega arith;
}

-- ---- all are woken, and nobody waits any more
all_woken : (q : Waiting) (f w : ℕ) → waker_for q f ≡ Some w → Contains (map (λ (e : ℕ × ℕ). e.1) q) w
all_woken [] f w = λ is. absurd (cc)
all_woken (e ∷ q) f w = elim (e.0 == f) as (λ b. cond b (Some e.1) (waker_for q f) ≡ Some w → Contains (map (λ (e : ℕ × ℕ). e.1) (e ∷ q)) w) [
  | true ↦ λ is. let same : e.1 ≡ w = cc in
      Contains-append_left (e.1 ∷ []) (map (λ (e : ℕ × ℕ). e.1) q) w (subst (Contains (e.1 ∷ [])) same (Contains-push [] e.1))
  | false ↦ λ is. Contains-append_right (e.1 ∷ []) (map (λ (e : ℕ × ℕ). e.1) q) w (all_woken q f w is)
]

pub length-wakers : (q : Waiting) → length (map (λ (e : ℕ × ℕ). e.1) q) ≡ length q
length-wakers [] = refl
length-wakers (e ∷ q) = omega (arith, length-wakers q)

pub local_drained : (q : Waiting) (k : ℕ) → Local q [] (map (λ (e : ℕ × ℕ). e.1) q) k 0
local_drained q k = record { keeps = λ f w apart is. inr (all_woken q f w is); fits = omega (arith, length-wakers q); most = omega (arith, length-wakers q) }

-- what an event does to each of the lists of who waits at a cell, and so to all who wait there
use Rattle.std.proofs.Common.{◌≡◌, ℕ, ◌+◌, ◌≤◌, ◌==◌, ◌++◌, ◌⊎◌, inl, inr, Bool, true, false, cond, length, List, [], ◌∷◌, Option, Some, None, option_to_list, rules, refl, ap, sym, subst, ◌∙◌, arith}
use Rattle.std.specs.List.{Contains}
use Rattle.std.proofs.lemmas.Bool.{eqb-true, eq-eqb}
use Rattle.std.proofs.lemmas.List.{length-append}
use Rattle.std.proofs.lemmas.List.Elements.{Contains-append_cases, Contains-append_left, Contains-append_right}
use Rattle.mea_by_name.specs.NamedQueue.{Waiting, waker_for, waits, with_waker, without, wakers, registering}
use Rattle.mea_by_name.proofs.NamedQueues.{Local, local_same, local_appended, local_with, local_without, local_registering, local_popped, local_drained, appended-other, with_waker-other, without-other, registering-other, length-without}
use Rattle.mea_once_model.specs.Cells.{woken_next}
use Rattle.mea_base.proofs.Maps.{is_absent}

-- ---- who waits in one list or in another
abbrev first_of : Option ℕ → Option ℕ → Option ℕ
first_of None p = p
first_of (Some w) p = Some w

pub waker_for-append : (a b : Waiting) (f : ℕ) → waker_for (a ++ b) f ≡ first_of (waker_for a f) (waker_for b f)
waker_for-append [] b f = refl
waker_for-append (e ∷ a) b f = elim (e.0 == f) as (λ t. cond t (Some e.1) (waker_for (a ++ b) f) ≡ first_of (cond t (Some e.1) (waker_for a f)) (waker_for b f)) [
  | true ↦ refl
  | false ↦ waker_for-append a b f
]

pub in_first : (a b : Waiting) (f w : ℕ) → waker_for a f ≡ Some w → waker_for (a ++ b) f ≡ Some w
in_first a b f w is = waker_for-append a b f ∙ ap (λ o. first_of o (waker_for b f)) is

pub in_second : (a b : Waiting) (f : ℕ) → waker_for a f ≡ None → waker_for (a ++ b) f ≡ waker_for b f
in_second a b f none = waker_for-append a b f ∙ ap (λ o. first_of o (waker_for b f)) none

pub not_waiting : (q : Waiting) (f : ℕ) → waits q f ≡ false → waker_for q f ≡ None
not_waiting q f none = is_absent (waker_for q f) (λ some. absurd (cc))

-- ---- a change of one list: what a change of a queue is, and none but k comes
pub record Part (q q' : Waiting) (ws : List ℕ) (k extra : ℕ) : Type 0 where
  pub local : Local q q' ws k extra
  pub none : (f : ℕ) → (k ≡ f → ⊥) → waker_for q f ≡ None → waker_for q' f ≡ None

pub part_same : (q : Waiting) (k : ℕ) → Part q q [] k 0
part_same q k = record { local = local_same q k; none = λ f apart is. is }

pub part_pushed : (q : Waiting) (f w : ℕ) → Part q (q ++ (f, w) ∷ []) [] f 1
part_pushed q f w = record { local = local_appended q f w; none = λ g apart is. appended-other q f w g apart ∙ is }

pub part_with : (q : Waiting) (f w : ℕ) → Part q (with_waker q f w) [] f 0
part_with q f w = record { local = local_with q f w; none = λ g apart is. with_waker-other q f w g apart ∙ is }

pub part_without : (q : Waiting) (f : ℕ) → Part q (without q f) [] f 0
part_without q f = record { local = local_without q f; none = λ g apart is. without-other q f g apart ∙ is }

-- ---- one registers
pub part_registering : (q : Waiting) (f w : ℕ) → Part q (registering q f w) [] f 1
part_registering q f w = record { local = local_registering q f w; none = λ g apart is. registering-other q f w g apart ∙ is }

-- ---- one is woken, the first is, and all are
one-of : (w : ℕ) (ws : List ℕ) → Contains (w ∷ ws) w
one-of w ws = search rules

settled-keeps : (q : Waiting) (f g w : ℕ) → waker_for q g ≡ Some w → (waker_for (without q f) g ≡ Some w) ⊎ Contains (option_to_list (waker_for q f)) w
settled-keeps q f g w is = at (f == g) refl
  where
    at : (b : Bool) → (f == g) ≡ b → (waker_for (without q f) g ≡ Some w) ⊎ Contains (option_to_list (waker_for q f)) w
    at true same = inr (subst (λ o. Contains (option_to_list o) w) (sym (ap (waker_for q) (eqb-true f g same) ∙ is)) (one-of w []))
    at false differs = inl (without-other q f g (λ same. absurd (let yes = eq-eqb f g same in cc)) ∙ is)

settled-none : (q : Waiting) (f g : ℕ) → waker_for q g ≡ None → waker_for (without q f) g ≡ None
settled-none [] f g = λ is. refl
settled-none (e ∷ q) f g = elim (e.0 == g) as (λ b. (e.0 == g) ≡ b → cond b (Some e.1) (waker_for q g) ≡ None → waker_for (without (e ∷ q) f) g ≡ None) [
  | true ↦ λ here is. absurd (cc)
  | false ↦ λ other is. elim (e.0 == f) as (λ t. waker_for (cond t (without q f) (e ∷ without q f)) g ≡ None) [
    | true ↦ settled-none q f g is
    | false ↦ ap (λ b. cond b (Some e.1) (waker_for (without q f) g)) other ∙ settled-none q f g is
  ]
] refl

settled-fits : (q : Waiting) (f : ℕ) → length (without q f) + length (option_to_list (waker_for q f)) ≤ length q
settled-fits [] f = omega arith
settled-fits (e ∷ q) f = elim (e.0 == f) as (λ b. length (cond b (without q f) (e ∷ without q f)) + length (option_to_list (cond b (Some e.1) (waker_for q f))) ≤ length (e ∷ q)) [
  | true ↦ omega (arith, length-without q f)
  | false ↦ omega (arith, settled-fits q f)
]

pub part_settled : (q : Waiting) (f k : ℕ) → Part q (without q f) (option_to_list (waker_for q f)) k 0
part_settled q f k = record {
  local = record { keeps = λ g w apart is. settled-keeps q f g w is; fits = omega (arith, settled-fits q f); most = omega (arith, settled-fits q f) };
  none = λ g apart is. settled-none q f g is;
}

-- the first goes, if there is one
abbrev pub behind : Waiting → Waiting
behind [] = []
behind (e ∷ q) = q

pub part_next : (q : Waiting) (k : ℕ) → Part q (behind q) (woken_next q) k 0
part_next [] k = part_same [] k
part_next (e ∷ q) k = record {
  local = local_popped e q k;
  none = λ f apart. elim (e.0 == f) as (λ b. cond b (Some e.1) (waker_for q f) ≡ None → waker_for q f ≡ None) [
    | true ↦ λ is. absurd (cc)
    | false ↦ λ is. is
  ];
}

pub part_drained : (q : Waiting) (k : ℕ) → Part q [] (wakers q) k 0
part_drained q k = record { local = local_drained q k; none = λ f apart is. refl }

-- ---- changes of two lists together, whose wakes are all among these
pub both : (a a' b b' : Waiting) (ws vs us : List ℕ) (k m n : ℕ) → Part a a' ws k m → Part b b' vs k n → ((w : ℕ) → Contains ws w → Contains us w) → ((w : ℕ) → Contains vs w → Contains us w)
    → length us ≡ length ws + length vs → Part (a ++ b) (a' ++ b') us k (m + n)
both a a' b b' ws vs us k m n first second left right long = record {
  local = record {
    keeps = λ f w apart is. keeps f w apart (waker_for a f) refl is;
    fits = omega (arith, long, first.local.fits, second.local.fits, length-append a b, length-append a' b');
    most = omega (arith, long, first.local.most, second.local.most, length-append a b);
  };
  none = λ f apart is. nobody f apart (waker_for a f) refl is;
}
  where
    keeps : (f w : ℕ) → (k ≡ f → ⊥) → (o : Option ℕ) → waker_for a f ≡ o → waker_for (a ++ b) f ≡ Some w → (waker_for (a' ++ b') f ≡ Some w) ⊎ Contains us w
    keeps f w apart (Some v) here is =
        let same : Some v ≡ Some w = sym (in_first a b f v here) ∙ is in
        elim (first.local.keeps f w apart (here ∙ same)) [ inl kept ↦ inl (in_first a' b' f w kept) | inr woken ↦ inr (left w woken) ]
    keeps f w apart None absent is =
        elim (second.local.keeps f w apart (sym (in_second a b f absent) ∙ is)) [ inl kept ↦ inl (in_second a' b' f (first.none f apart absent) ∙ kept) | inr woken ↦ inr (right w woken) ]

    nobody : (f : ℕ) → (k ≡ f → ⊥) → (o : Option ℕ) → waker_for a f ≡ o → waker_for (a ++ b) f ≡ None → waker_for (a' ++ b') f ≡ None
    nobody f apart (Some v) here is = absurd (let there = in_first a b f v here in cc)
    nobody f apart None absent is = in_second a' b' f (first.none f apart absent) ∙ second.none f apart (sym (in_second a b f absent) ∙ is)

-- the lists of a cell: who waits for the turn, whose initialiser runs, and who waits until it is full. The wakes of the last
-- come first
pub together : (q q' r r' s s' : Waiting) (ws vs us : List ℕ) (k l m n : ℕ) → Part q q' ws k l → Part r r' vs k m → Part s s' us k n
    → Local (q ++ (r ++ s)) (q' ++ (r' ++ s')) (us ++ (vs ++ ws)) k (l + (m + n))
together q q' r r' s s' ws vs us k l m n first second third =
    (both q q' (r ++ s) (r' ++ s') ws (vs ++ us) (us ++ (vs ++ ws)) k l (m + n) first
    (both r r' s s' vs us (vs ++ us) k m n second third (λ w has. Contains-append_left vs us w has) (λ w has. Contains-append_right vs us w has) (length-append vs us))
    (λ w has. Contains-append_right us (vs ++ ws) w (Contains-append_right vs ws w has))
    (λ w has. others w has)
    (omega (arith, length-append us (vs ++ ws), length-append vs ws, length-append vs us))).local
  where
    others : (w : ℕ) → Contains (vs ++ us) w → Contains (us ++ (vs ++ ws)) w
    others w has = elim (Contains-append_cases vs us w has) [
      | inl woken ↦ Contains-append_right us (vs ++ ws) w (Contains-append_left vs ws w woken)
      | inr woken ↦ Contains-append_left us (vs ++ ws) w woken
    ]

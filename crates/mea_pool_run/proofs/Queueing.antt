-- who waits for a lease, by name, and in which order
use Rattle.std.proofs.Common.{◌≡◌, ℕ, ◌≤◌, ◌==◌, ◌++◌, inl, inr, Bool, true, false, cond, List, [], ◌∷◌, Option, Some, None, is_some, length, refl, ap, sym, subst, ◌∙◌, arith, append-nil}
use Rattle.std.proofs.lemmas.Bool.{eq-eqb, cases_eq}
use Rattle.std.specs.Option.{IsSome}
use Rattle.std.specs.FinMap.{get, insert, remove}
use Rattle.mea_base.proofs.Maps.{by_put, by_gone}
use Rattle.mea_by_name.specs.ByName.{Names}
use Rattle.mea_by_name.specs.NamedQueue.{Waiting, waker_for, registering, without}
use Rattle.mea_by_name.proofs.NamedQueues.{registering-other, without-other}
use Rattle.mea_pool_run.specs.PoolByName.{Live, asks}
use Rattle.mea_pool_run.specs.Orderly.{names, IsPart}

-- no two that wait have one name
abbrev pub AreApart : Waiting → Type 0
AreApart [] = Unit {0}
AreApart (e ∷ q) = (waker_for q e.0 ≡ None) × AreApart q

-- each that waits is a wait for a lease that was not granted a place
pub record Line (waiting : Waiting) (things : Names Live) : Type 0 where
  pub asking : (f : ℕ) → IsSome (waker_for waiting f) → get things f ≡ Some (asks false)
  pub apart : AreApart waiting

nobody_some : (q : Waiting) (f : ℕ) → waker_for q f ≡ None → IsSome (waker_for q f) → ⊥
nobody_some q f none some = let both : false ≡ true = sym (ap (λ (o : Option ℕ). is_some o) none) ∙ some in absurd (cc)

none_of : (o : Option ℕ) → (IsSome o → ⊥) → o ≡ None
none_of None nothing = refl
none_of (Some x) nothing = absurd (nothing refl)

pub line_none : (things : Names Live) → Line [] things
line_none things = record { asking = λ f some. absurd (cc); apart = tt }

-- ---- what stands at another name changes

pub line_put : (q : Waiting) (things : Names Live) (k : ℕ) (x : Live) → waker_for q k ≡ None → Line q things → Line q (insert things k x)
line_put q things k x none line = record {
  asking = by_put things k x (λ f o. IsSome (waker_for q f) → o ≡ Some (asks false)) (λ some. absurd (nobody_some q k none some)) (λ f apart some. line.asking f some);
  apart = line.apart;
}

pub line_gone : (q : Waiting) (things : Names Live) (k : ℕ) → waker_for q k ≡ None → Line q things → Line q (remove things k)
line_gone q things k none line = record {
  asking = by_gone things k (λ f o. IsSome (waker_for q f) → o ≡ Some (asks false)) (λ some. absurd (nobody_some q k none some)) (λ f apart some. line.asking f some);
  apart = line.apart;
}

-- one that is no wait without a grant does not wait
pub elsewhere : (q : Waiting) (things : Names Live) (k : ℕ) → Line q things → (get things k ≡ Some (asks false) → ⊥) → waker_for q k ≡ None
elsewhere q things k line other = none_of (waker_for q k) (λ some. other (line.asking k some))

-- ---- one that is polled, that is given up, that is granted

apart_registering : (q : Waiting) (f w : ℕ) → AreApart q → AreApart (registering q f w)
apart_registering [] f w apart = (refl, tt)
apart_registering (e ∷ q) f w apart = by_test (e.0 == f) refl (apart_registering q f w apart.1)
  where
    by_test : (b : Bool) → (e.0 == f) ≡ b → AreApart (registering q f w) → AreApart (cond b ((e.0, w) ∷ q) (e ∷ registering q f w))
    by_test true is rest = apart
    by_test false is rest = (registering-other q f w e.0 (λ same. let yes = eq-eqb e.0 f (sym same) in let both : true ≡ false = sym yes ∙ is in absurd (cc)) ∙ apart.0, rest)

pub line_registering : (q : Waiting) (things : Names Live) (f w : ℕ) → get things f ≡ Some (asks false) → Line q things → Line (registering q f w) things
line_registering q things f w here line = record {
  asking = λ g some. elim (cases_eq f g) [
    | inl same ↦ subst (λ (k : ℕ). get things k ≡ Some (asks false)) same here
    | inr differs ↦ line.asking g (sym (ap (λ (o : Option ℕ). is_some o) (registering-other q f w g differs)) ∙ some)
  ];
  apart = apart_registering q f w line.apart;
}

gone_waker : (q : Waiting) (f : ℕ) → waker_for (without q f) f ≡ None
gone_waker [] f = refl
gone_waker (e ∷ q) f = by_test (e.0 == f) refl (gone_waker q f)
  where
    by_test : (b : Bool) → (e.0 == f) ≡ b → waker_for (without q f) f ≡ None → waker_for (cond b (without q f) (e ∷ without q f)) f ≡ None
    by_test true is rest = rest
    by_test false is rest = ap (λ b. cond b (Some e.1) (waker_for (without q f) f)) is ∙ rest

apart_without : (q : Waiting) (f : ℕ) → AreApart q → AreApart (without q f)
apart_without [] f apart = tt
apart_without (e ∷ q) f apart = by_test (e.0 == f) refl (apart_without q f apart.1)
  where
    by_test : (b : Bool) → (e.0 == f) ≡ b → AreApart (without q f) → AreApart (cond b (without q f) (e ∷ without q f))
    by_test true is rest = rest
    by_test false is rest = (without-other q f e.0 (λ same. let yes = eq-eqb e.0 f (sym same) in let both : true ≡ false = sym yes ∙ is in absurd (cc)) ∙ apart.0, rest)

pub line_without : (q : Waiting) (things : Names Live) (f : ℕ) → Line q things → Line (without q f) (remove things f)
line_without q things f line = record {
  asking = by_gone things f (λ g o. IsSome (waker_for (without q f) g) → o ≡ Some (asks false)) (λ some. absurd (nobody_some (without q f) f (gone_waker q f) some))
      (λ g apart some. line.asking g (sym (ap (λ (o : Option ℕ). is_some o) (without-other q f g apart)) ∙ some));
  apart = apart_without q f line.apart;
}

pub first_asks : (e : ℕ × ℕ) (q : Waiting) (things : Names Live) → Line (e ∷ q) things → get things e.0 ≡ Some (asks false)
first_asks e q things line = line.asking e.0 (ap (λ (b : Bool). is_some (cond b (Some e.1) (waker_for q e.0))) (eq-eqb e.0 e.0 refl))

pub line_rest : (e : ℕ × ℕ) (q : Waiting) (things : Names Live) → Line (e ∷ q) things → Line q (insert things e.0 (asks true))
line_rest e q things line = line_put q things e.0 (asks true) line.apart.0 (record {
  asking = λ f some. line.asking f (wider f (e.0 == f) some);
  apart = line.apart.1;
})
  where
    wider : (f : ℕ) (b : Bool) → IsSome (waker_for q f) → IsSome (cond b (Some e.1) (waker_for q f))
    wider f true some = refl
    wider f false some = some

-- ---- the order

pub all_part : (xs : List ℕ) → IsPart xs xs
all_part [] = tt
all_part (x ∷ xs) = inl (refl, all_part xs)

longer_part : (xs ys : List ℕ) (y : ℕ) → IsPart xs ys → IsPart xs (y ∷ ys)
longer_part [] ys y part = tt
longer_part (x ∷ xs) ys y part = inr part

-- nobody is new
pub some_part : (xs ys : List ℕ) → IsPart xs ys → (new : List ℕ) × (length new ≤ 1) × IsPart xs (ys ++ new)
some_part xs ys part = ([], omega arith, subst (λ (zs : List ℕ). IsPart xs zs) (sym (append-nil ys)) part)

part_without : (q : Waiting) (f : ℕ) → IsPart (names (without q f)) (names q)
part_without [] f = tt
part_without (e ∷ q) f = by_test (e.0 == f) (part_without q f)
  where
    by_test : (b : Bool) → IsPart (names (without q f)) (names q) → IsPart (names (cond b (without q f) (e ∷ without q f))) (e.0 ∷ names q)
    by_test true rest = longer_part (names (without q f)) (names q) e.0 rest
    by_test false rest = inl (refl, rest)

pub order_same : (q : Waiting) → (new : List ℕ) × (length new ≤ 1) × IsPart (names q) (names q ++ new)
order_same q = some_part (names q) (names q) (all_part (names q))

pub order_without : (q : Waiting) (f : ℕ) → (new : List ℕ) × (length new ≤ 1) × IsPart (names (without q f)) (names q ++ new)
order_without q f = some_part (names (without q f)) (names q) (part_without q f)

pub order_rest : (e : ℕ × ℕ) (q : Waiting) → (new : List ℕ) × (length new ≤ 1) × IsPart (names q) (names (e ∷ q) ++ new)
order_rest e q = some_part (names q) (names (e ∷ q)) (longer_part (names q) (names q) e.0 (all_part (names q)))

pub order_none : (q : Waiting) → (new : List ℕ) × (length new ≤ 1) × IsPart [] (names q ++ new)
order_none q = some_part [] (names q) tt

more_part : (xs zs ys : List ℕ) → IsPart xs zs → IsPart xs (zs ++ ys)
more_part [] zs ys part = tt
more_part (x ∷ xs) [] ys part = absurd part
more_part (x ∷ xs) (z ∷ zs) ys (inl both) = inl (both.0, more_part xs zs ys both.1)
more_part (x ∷ xs) (z ∷ zs) ys (inr rest) = inr (more_part (x ∷ xs) zs ys rest)

-- who is new stands last
part_last : (q : Waiting) (f w : ℕ) → IsPart (names (registering q f w)) (names q ++ f ∷ [])
part_last [] f w = inl (refl, tt)
part_last (e ∷ q) f w = by_test (e.0 == f) (part_last q f w)
  where
    by_test : (b : Bool) → IsPart (names (registering q f w)) (names q ++ f ∷ []) → IsPart (names (cond b ((e.0, w) ∷ q) (e ∷ registering q f w))) (e.0 ∷ (names q ++ f ∷ []))
    by_test true rest = inl (refl, more_part (names q) (names q) (f ∷ []) (all_part (names q)))
    by_test false rest = inl (refl, rest)

pub order_last : (q : Waiting) (f w : ℕ) → (new : List ℕ) × (length new ≤ 1) × IsPart (names (registering q f w)) (names q ++ new)
order_last q f w = (f ∷ [], omega arith, part_last q f w)

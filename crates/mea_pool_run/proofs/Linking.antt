-- numbers and names of those who wait
use Rattle.std.proofs.Common.{◌≡◌, ◌≢◌, ℕ, ◌==◌, ◌++◌, ◌⊎◌, inl, inr, Bool, true, false, cond, List, [], ◌∷◌, Option, Some, None, is_some, refl, ap, sym, subst, ◌∙◌, if◌then◌else◌}
use Rattle.std.specs.Option.{IsSome}
use Rattle.std.proofs.lemmas.Bool.{cases_eq, eqb-true, eqb-false, eq-eqb, ne_eqb}
use Rattle.mea_base.proofs.Maps.{inside}
use Rattle.mea_by_name.specs.declared.named_waker.NamedWaker.{NamedWaker}
use Rattle.mea_pool_core.proofs.Orders.{apart_last, apart_without, apart_rewaked, rewaked_some, other_waker}
use Rattle.mea_by_name.specs.NamedQueue.{waits, waker_for, registering, without}
use Rattle.mea_lock_core.specs.Condvar.{waker_under, with_waker, without_wait, AreApart}
use Rattle.mea_pool_run.specs.Kept.{Numbered, names_of, AreOf, Linked}

abbrev pub At : Type 0
At = ℕ → Option ℕ

-- what stands at each name once this stands at f
abbrev pub put : At → ℕ → Option ℕ → At
put at f x = λ g. cond (f == g) x (at g)

-- ---- one place of a list

abbrev pub IsSingle : At → Type 0
IsSingle at = (f g n : ℕ) → at f ≡ Some n → at g ≡ Some n → f ≡ g

same_test : (at : At) (f n : ℕ) → IsSingle at → at f ≡ Some n → (e : ℕ × NamedWaker) → at e.1.name ≡ Some e.0 → (e.0 == n) ≡ (e.1.name == f)
same_test at f n single here e is = elim (cases_eq e.0 n) [
  | inl same ↦ eq-eqb e.0 n same ∙ sym (eq-eqb e.1.name f (single e.1.name f n (is ∙ ap (λ m. Some m) same) here))
  | inr differs ↦ ne_eqb e.0 n differs ∙ sym (ne_eqb e.1.name f (λ alike. differs (inside (sym is ∙ ap at alike ∙ here))))
]

pub none_some : (o : Option ℕ) (n : ℕ) → o ≡ None → o ≡ Some n → ⊥
none_some o n none some = absurd (cc)

other_name : (at : At) (f : ℕ) (e : ℕ × NamedWaker) → at f ≡ None → at e.1.name ≡ Some e.0 → (e.1.name == f) ≡ false
other_name at f e none is = ne_eqb e.1.name f (λ same. none_some (at f) e.0 none (sym (ap at same) ∙ is))

flipped : (m n : ℕ) → (m == n) ≡ false → (n == m) ≡ false
flipped m n is = ne_eqb n m (λ same. eqb-false m n is (sym same))

-- ---- names of those who wait

pub absent : (at : At) (f : ℕ) (q : Numbered) → AreOf at q → at f ≡ None → waits (names_of q) f ≡ false
absent at f [] are none = refl
absent at f (e ∷ q) are none = ap (λ b. is_some (cond b (Some e.1.waker) (waker_for (names_of q) f))) (other_name at f e none are.0) ∙ absent at f q are.1 none

pub registered_last : (at : At) (f n w : ℕ) (q : Numbered) → AreOf at q → at f ≡ None → names_of (q ++ (n, record { name = f; waker = w }) ∷ []) ≡ registering (names_of q) f w
registered_last at f n w [] are none = refl
registered_last at f n w (e ∷ q) are none =
    ap (λ es. (e.1.name, e.1.waker) ∷ es) (registered_last at f n w q are.1 none)
    ∙ sym (ap (λ b. cond b ((e.1.name, w) ∷ names_of q) ((e.1.name, e.1.waker) ∷ registering (names_of q) f w)) (other_name at f e none are.0))

with_none : (q : Numbered) (n : ℕ) (k : NamedWaker) → waker_under q n ≡ None → with_waker q n k ≡ q
with_none [] n k none = refl
with_none (e ∷ q) n k none = by_test (e.0 == n) none (with_none q n k)
  where
    by_test : (b : Bool) → cond b (Some e.1) (waker_under q n) ≡ None → (waker_under q n ≡ None → with_waker q n k ≡ q) → ◌≡◌ {A = Numbered} ((e.0, cond b k e.1) ∷ with_waker q n k) (e ∷ q)
    by_test true none rest = absurd (cc)
    by_test false none rest = ap (λ (es : Numbered). e ∷ es) (rest none)

module _ (at : At) (f n : ℕ) (single : IsSingle at) (here : at f ≡ Some n) where
  pub waits_named : (q : Numbered) → AreOf at q → waits (names_of q) f ≡ is_some (waker_under q n)
  waits_named [] are = refl
  waits_named (e ∷ q) are = ap (λ b. is_some (cond b (Some e.1.waker) (waker_for (names_of q) f))) (sym (same_test at f n single here e are.0)) ∙ by_test (e.0 == n) (waits_named q are.1)
    where
      by_test : (b : Bool) → waits (names_of q) f ≡ is_some (waker_under q n) → is_some (cond b (Some e.1.waker) (waker_for (names_of q) f)) ≡ is_some (cond b (Some e.1) (waker_under q n))
      by_test true rest = refl
      by_test false rest = rest

  pub registered_again : (w : ℕ) (q : Numbered) → AreOf at q → AreApart q → IsSome (waker_under q n) → names_of (with_waker q n (record { name = f; waker = w })) ≡ registering (names_of q) f w
  registered_again w [] are apart some = absurd (cc)
  registered_again w (e ∷ q) are apart some = by_test (e.0 == n) refl (same_test at f n single here e are.0) (registered_again w q are.1 apart.1) some
    where
      k : NamedWaker
      k = record { name = f; waker = w }

      by_test : (b : Bool) → (e.0 == n) ≡ b → b ≡ (e.1.name == f) → (IsSome (waker_under q n) → names_of (with_waker q n k) ≡ registering (names_of q) f w) → IsSome (cond b (Some e.1) (waker_under q n))
          → ◌≡◌ {A = List (ℕ × ℕ)} (((if b then k else e.1).name, (if b then k else e.1).waker) ∷ names_of (with_waker q n k)) (cond (e.1.name == f) ((e.1.name, w) ∷ names_of q) ((e.1.name, e.1.waker) ∷ registering (names_of q) f w))
      by_test true is same rest some =
          (λ i. (sym (eqb-true e.1.name f (sym same)) i, w) ∷ names_of (with_none q n k (subst (λ m. waker_under q m ≡ None) (eqb-true e.0 n is) apart.0) i))
          ∙ ap (λ b. cond b ((e.1.name, w) ∷ names_of q) ((e.1.name, e.1.waker) ∷ registering (names_of q) f w)) same
      by_test false is same rest some =
          ap (λ es. (e.1.name, e.1.waker) ∷ es) (rest some)
          ∙ ap (λ b. cond b ((e.1.name, w) ∷ names_of q) ((e.1.name, e.1.waker) ∷ registering (names_of q) f w)) same

  pub left_named : (q : Numbered) → AreOf at q → names_of (without_wait q n) ≡ without (names_of q) f
  left_named [] are = refl
  left_named (e ∷ q) are = by_test (e.0 == n) (left_named q are.1) ∙ ap (λ b. cond b (without (names_of q) f) ((e.1.name, e.1.waker) ∷ without (names_of q) f)) (same_test at f n single here e are.0)
    where
      by_test : (b : Bool) → names_of (without_wait q n) ≡ without (names_of q) f → names_of (if b then without_wait q n else e ∷ without_wait q n) ≡ cond b (without (names_of q) f) ((e.1.name, e.1.waker) ∷ without (names_of q) f)
      by_test true rest = rest
      by_test false rest = ap (λ es. (e.1.name, e.1.waker) ∷ es) rest

pub absent_left : (at : At) (f : ℕ) (q : Numbered) → AreOf at q → at f ≡ None → without (names_of q) f ≡ names_of q
absent_left at f [] are none = refl
absent_left at f (e ∷ q) are none =
    ap (λ b. cond b (without (names_of q) f) ((e.1.name, e.1.waker) ∷ without (names_of q) f)) (other_name at f e none are.0)
    ∙ ap (λ es. (e.1.name, e.1.waker) ∷ es) (absent_left at f q are.1 none)

-- ---- what stands at each name, changed at one

pub put_none : (at : At) (f g m : ℕ) → put at f None g ≡ Some m → (at g ≡ Some m) × ((f == g) ≡ false)
put_none at f g m = by_test (f == g) refl
  where
    by_test : (b : Bool) → (f == g) ≡ b → cond b None (at g) ≡ Some m → (at g ≡ Some m) × ((f == g) ≡ false)
    by_test true is gone = absurd (none_some None m refl gone)
    by_test false is there = (there, is)

pub put_some : (at : At) (f n g m : ℕ) → put at f (Some n) g ≡ Some m → ((f ≡ g) × (n ≡ m)) ⊎ (at g ≡ Some m)
put_some at f n g m = by_test (f == g) refl
  where
    by_test : (b : Bool) → (f == g) ≡ b → cond b (Some n) (at g) ≡ Some m → ((f ≡ g) × (n ≡ m)) ⊎ (at g ≡ Some m)
    by_test true is here = inl (eqb-true f g is, inside here)
    by_test false is there = inr there

others : (at : At) (f g : ℕ) (x : Option ℕ) (o : Option ℕ) → (f == g) ≡ false → at g ≡ o → put at f x g ≡ o
others at f g x o differs is = ap (λ b. cond b x (at g)) differs ∙ is

pub single_none : (at : At) (f : ℕ) → IsSingle at → IsSingle (put at f None)
single_none at f single g h m a b = single g h m (put_none at f g m a).0 (put_none at f h m b).0

pub single_some : (at : At) (f n : ℕ) → IsSingle at → ((g : ℕ) → at g ≡ Some n → ⊥) → IsSingle (put at f (Some n))
single_some at f n single nobody g h m a b = elim (put_some at f n g m a) [
  | inl x ↦ elim (put_some at f n h m b) [
    | inl y ↦ sym x.0 ∙ y.0
    | inr y ↦ absurd (nobody h (y ∙ ap (λ k. Some k) (sym x.1)))
  ]
  | inr x ↦ elim (put_some at f n h m b) [
    | inl y ↦ absurd (nobody g (x ∙ ap (λ k. Some k) (sym y.1)))
    | inr y ↦ single g h m x y
  ]
]

-- ---- who waits

of_others : (at : At) (f : ℕ) (x : Option ℕ) (q : Numbered) → AreOf at q → at f ≡ None → AreOf (put at f x) q
of_others at f x [] are none = tt
of_others at f x (e ∷ q) are none = (others at f e.1.name x (Some e.0) (ne_eqb f e.1.name (λ same. none_some (at f) e.0 none (ap at same ∙ are.0))) are.0, of_others at f x q are.1 none)

of_last : (at : At) (q : Numbered) (e : ℕ × NamedWaker) → AreOf at q → at e.1.name ≡ Some e.0 → AreOf at (q ++ e ∷ [])
of_last at [] e are is = (is, tt)
of_last at (x ∷ q) e are is = (are.0, of_last at q e are.1 is)

still_some : (q : Numbered) (e : ℕ × NamedWaker) (m : ℕ) → IsSome (waker_under q m) → IsSome (waker_under (q ++ e ∷ []) m)
still_some [] e m some = absurd (cc)
still_some (x ∷ q) e m some = by_test (x.0 == m) (still_some q e m) some
  where
    by_test : (b : Bool) → (IsSome (waker_under q m) → IsSome (waker_under (q ++ e ∷ []) m)) → IsSome (cond b (Some x.1) (waker_under q m)) → IsSome (cond b (Some x.1) (waker_under (q ++ e ∷ []) m))
    by_test true rest here = refl
    by_test false rest here = rest here

last_there : (q : Numbered) (e : ℕ × NamedWaker) (m : ℕ) → e.0 ≡ m → IsSome (waker_under (q ++ e ∷ []) m)
last_there [] e m same = ap (λ (b : Bool). is_some (cond b (Some e.1) None)) (eq-eqb e.0 m same)
last_there (x ∷ q) e m same = by_test (x.0 == m) (last_there q e m same)
  where
    by_test : (b : Bool) → IsSome (waker_under (q ++ e ∷ []) m) → IsSome (cond b (Some x.1) (waker_under (q ++ e ∷ []) m))
    by_test true rest = refl
    by_test false rest = rest

module _ {Else : ℕ → Type 0} (at : At) (q : Numbered) (linked : Linked at q Else) where
  -- one more waits, under a number that nobody has
  pub pushed : (f n w : ℕ) → at f ≡ None → waker_under q n ≡ None → (Else n → ⊥) → Linked (put at f (Some n)) (q ++ (n, record { name = f; waker = w }) ∷ []) Else
  pushed f n w none fresh new = record {
    named = of_last (put at f (Some n)) q _ (of_others at f (Some n) q linked.named none) (ap (λ b. cond b (Some n) (at f)) (eq-eqb f f refl));
    apart = apart_last q n _ linked.apart fresh;
    single = single_some at f n linked.single nobody;
    home = λ g m is. elim (put_some at f n g m is) [
      | inl here ↦ inl (last_there q _ m here.1)
      | inr there ↦ elim (linked.home g m there) [
        | inl waits ↦ inl (still_some q _ m waits)
        | inr els ↦ inr els
      ]
    ];
  }
    where
      nobody : (g : ℕ) → at g ≡ Some n → ⊥
      nobody g is = elim (linked.home g n is) [
        | inl waits ↦ let no : false ≡ true = ap is_some (sym fresh) ∙ waits in absurd (cc)
        | inr els ↦ new els
      ]

  -- one that has a number is gone
  pub left : {Other : ℕ → Type 0} (f n : ℕ) → at f ≡ Some n → ((m : ℕ) → m ≢ n → Else m → Other m) → Linked (put at f None) (without_wait q n) Other
  left {Other} f n here turns = record {
    named = of_rest q linked.named;
    apart = apart_without q n linked.apart;
    single = single_none at f linked.single;
    home = λ g m is.
        let there = put_none at f g m is in
        let differs : m ≢ n = λ same. eqb-false f g there.1 (linked.single f g n here (there.0 ∙ ap (λ k. Some k) same)) in
        elim (linked.home g m there.0) [
          | inl waits ↦ inl (ap is_some (other_waker q n m differs) ∙ waits)
          | inr els ↦ inr (turns m differs els)
        ];
  }
    where
      of_rest : (r : Numbered) → AreOf at r → AreOf (put at f None) (without_wait r n)
      of_rest [] are = tt
      of_rest (e ∷ r) are = by_test (e.0 == n) (same_test at f n linked.single here e are.0) (of_rest r are.1)
        where
          by_test : (b : Bool) → b ≡ (e.1.name == f) → AreOf (put at f None) (without_wait r n) → AreOf (put at f None) (if b then without_wait r n else e ∷ without_wait r n)
          by_test true same rest = rest
          by_test false same rest = (others at f e.1.name None (Some e.0) (flipped e.1.name f (sym same)) are.0, rest)

  pub rewaked : (f n w : ℕ) → at f ≡ Some n → Linked at (with_waker q n (record { name = f; waker = w })) Else
  rewaked f n w here = record {
    named = of_all q linked.named;
    apart = apart_rewaked q n _ linked.apart;
    single = linked.single;
    home = λ g m is. elim (linked.home g m is) [
      | inl waits ↦ inl (rewaked_some q n m _ ∙ waits)
      | inr els ↦ inr els
    ];
  }
    where
      of_all : (r : Numbered) → AreOf at r → AreOf at (with_waker r n (record { name = f; waker = w }))
      of_all [] are = tt
      of_all (e ∷ r) are = (by_test (e.0 == n) refl, of_all r are.1)
        where
          by_test : (b : Bool) → (e.0 == n) ≡ b → at (if b then record { name = f; waker = w } else e.1).name ≡ Some e.0
          by_test true is = here ∙ ap (λ k. Some k) (sym (eqb-true e.0 n is))
          by_test false is = are.0

  -- nobody waits any more
  pub cleared : {Other : ℕ → Type 0} → ((m : ℕ) → IsSome (waker_under q m) → Other m) → ((m : ℕ) → Else m → Other m) → Linked at [] Other
  cleared waited turns = record {
    named = tt;
    apart = tt;
    single = linked.single;
    home = λ g m is. elim (linked.home g m is) [
      | inl waits ↦ inr (waited m waits)
      | inr els ↦ inr (turns m els)
    ];
  }

-- the first goes on
pub popped : {Else Other : ℕ → Type 0} (at : At) (e : ℕ × NamedWaker) (q : Numbered) → Linked at (e ∷ q) Else → Other e.0 → ((m : ℕ) → Else m → Other m) → Linked at q Other
popped {Else} {Other} at e q linked first turns = record {
  named = linked.named.1;
  apart = linked.apart.1;
  single = linked.single;
  home = λ g m is. elim (linked.home g m is) [
    | inl waits ↦ by_test m (e.0 == m) refl waits
    | inr els ↦ inr (turns m els)
  ];
}
  where
    by_test : (m : ℕ) (b : Bool) → (e.0 == m) ≡ b → IsSome (cond b (Some e.1) (waker_under q m)) → IsSome (waker_under q m) ⊎ Other m
    by_test m true is some = inr (subst Other (eqb-true e.0 m is) first)
    by_test m false is some = inl some

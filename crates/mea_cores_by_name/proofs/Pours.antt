-- a pour, by numbers and by names
use Rattle.std.proofs.Common.{◌≡◌, ℕ, ◌+◌, ◌-◌, ◌==◌, ◌++◌, inl, inr, true, false, cond, List, [], ◌∷◌, map, filter, min, nat_lt, Some, refl, ap, sym, ◌∙◌, append_assoc}
use Rattle.std.specs.Ordering.{nat_cmp}
use Rattle.std.specs.FinMap.{FinMap, get, insert}
use Rattle.std.proofs.lemmas.Bool.{ne_eqb}
use Rattle.mea_base.specs.Queue.{lacks_after, waiting_after, granted_in}
use Rattle.mea_base.proofs.Maps.{get-there, get-other, by_put}
use Rattle.mea_base.proofs.Tests.{by_name}
use Rattle.mea_by_name.specs.declared.named_waker.NamedWaker.{NamedWaker}
use Rattle.mea_by_name.specs.ByName.{Names}
use Rattle.mea_by_name.proofs.LackingQueues.{some_or_none}
use Rattle.mea_sem_core.specs.declared.acquire.Acquire.{Acquire}
use Rattle.mea_sem_core.specs.declared.acquire.Acquire.TheVariants.{Queued}
use Rattle.mea_sem_core.specs.Core.{Waiter, Acquires, Owes, waiting, granting}
use Rattle.mea_cores_by_name.specs.Linked.{AreOf, IsHome, Linked}
use Rattle.mea_cores_by_name.proofs.Linking.{home-still}

abbrev Queue : Type 0
Queue = List (Waiter NamedWaker × ℕ)

-- ---- one in the middle of a queue
are-mid : (acquires : Names Acquire) (p : Queue) (n d l : ℕ) (k : NamedWaker) (q : Queue) → AreOf acquires (p ++ (Acquires n d k, l) ∷ q) → (get acquires k.name ≡ Some (Queued d n)) × AreOf acquires (p ++ q)
are-mid acquires [] n d l k q are = are
are-mid acquires ((Acquires m e v, j) ∷ p) n d l k q are = let rest = are-mid acquires p n d l k q are.1 in (rest.0, (are.0, rest.1))
are-mid acquires ((Owes, j) ∷ p) n d l k q are = are-mid acquires p n d l k q are

are-debt : (acquires : Names Acquire) (p : Queue) (l : ℕ) (q : Queue) → AreOf acquires (p ++ (Owes, l) ∷ q) → AreOf acquires (p ++ q)
are-debt acquires [] l q are = are
are-debt acquires ((Acquires m e v, j) ∷ p) l q are = (are.0, are-debt acquires p l q are.1)
are-debt acquires ((Owes, j) ∷ p) l q are = are-debt acquires p l q are

are-lack : (acquires : Names Acquire) (p : Queue) (e : Waiter NamedWaker) (l j : ℕ) (q : Queue) → AreOf acquires (p ++ (e, l) ∷ q) → AreOf acquires (p ++ (e, j) ∷ q)
are-lack acquires [] (Acquires m d v) l j q are = are
are-lack acquires [] Owes l j q are = are
are-lack acquires ((Acquires m d v, i) ∷ p) e l j q are = (are.0, are-lack acquires p e l j q are.1)
are-lack acquires ((Owes, i) ∷ p) e l j q are = are-lack acquires p e l j q are

waiting-mid : (p : Queue) (n d l : ℕ) (k : NamedWaker) (q : Queue) (m : ℕ) → (n ≡ m → ⊥) → waiting (p ++ (Acquires n d k, l) ∷ q) m ≡ waiting (p ++ q) m
waiting-mid [] n d l k q m apart = ap (λ b. cond b (Some (d, l)) (waiting q m)) (ne_eqb n m apart)
waiting-mid ((Acquires i e v, j) ∷ p) n d l k q m apart = ap (cond (i == m) (Some (e, j))) (waiting-mid p n d l k q m apart)
waiting-mid ((Owes, j) ∷ p) n d l k q m apart = waiting-mid p n d l k q m apart

waiting-debt : (p : Queue) (l : ℕ) (q : Queue) (m : ℕ) → waiting (p ++ (Owes, l) ∷ q) m ≡ waiting (p ++ q) m
waiting-debt [] l q m = refl
waiting-debt ((Acquires i e v, j) ∷ p) l q m = ap (cond (i == m) (Some (e, j))) (waiting-debt p l q m)
waiting-debt ((Owes, j) ∷ p) l q m = waiting-debt p l q m

-- who waits, waits with another lack
abbrev Waits : Queue → ℕ → ℕ → Type 0
Waits q m d = (lack : ℕ) × (waiting q m ≡ Some (d, lack))

waits-lack : (p : Queue) (e : Waiter NamedWaker) (l j : ℕ) (q : Queue) (m d : ℕ) → Waits (p ++ (e, l) ∷ q) m d → Waits (p ++ (e, j) ∷ q) m d
waits-lack [] (Acquires n b v) l j q m d = elim (n == m) as (λ t. ((lack : ℕ) × (cond t (Some (b, l)) (waiting q m) ≡ Some (d, lack))) → (lack : ℕ) × (cond t (Some (b, j)) (waiting q m) ≡ Some (d, lack))) [
  | true ↦ λ is. (j, let both : ◌≡◌ {A = ℕ × ℕ} (b, l) (d, is.0) = (let h = is.1 in cc) in ap (λ (x : ℕ). Some (x, j)) (ap (λ (x : ℕ × ℕ). x.0) both))
  | false ↦ λ is. is
]
waits-lack [] Owes l j q m d = λ is. is
waits-lack ((Acquires n b v, i) ∷ p) e l j q m d = elim (n == m)
    as (λ t. ((lack : ℕ) × (cond t (Some (b, i)) (waiting (p ++ (e, l) ∷ q) m) ≡ Some (d, lack))) → (lack : ℕ) × (cond t (Some (b, i)) (waiting (p ++ (e, j) ∷ q) m) ≡ Some (d, lack))) [
      | true ↦ λ is. is
      | false ↦ λ is. waits-lack p e l j q m d is
    ]
waits-lack ((Owes, i) ∷ p) e l j q m d = waits-lack p e l j q m d

module _ (acquires : Names Acquire) where
  lack : (p : Queue) (e : Waiter NamedWaker) (l j : ℕ) (q : Queue) (g : FinMap nat_cmp ℕ) → Linked (p ++ (e, l) ∷ q) g acquires → Linked (p ++ (e, j) ∷ q) g acquires
  lack p e l j q g linked = record {
    waits = are-lack acquires p e l j q linked.waits;
    home = λ f a is. home-still (p ++ (e, l) ∷ q) (p ++ (e, j) ∷ q) g g a (λ d m same home. elim home [ inl held ↦ inl held | inr waits ↦ inr (waits-lack p e l j q m d waits) ]) (linked.home f a is);
    owned = linked.owned;
    apart = linked.apart;
  }

  debt : (p : Queue) (l : ℕ) (q : Queue) (g : FinMap nat_cmp ℕ) → Linked (p ++ (Owes, l) ∷ q) g acquires → Linked (p ++ q) g acquires
  debt p l q g linked = record {
    waits = are-debt acquires p l q linked.waits;
    home = λ f a is. home-still (p ++ (Owes, l) ∷ q) (p ++ q) g g a (λ d m same home. elim home [ inl held ↦ inl held | inr waits ↦ inr (waits.0, sym (waiting-debt p l q m) ∙ waits.1) ]) (linked.home f a is);
    owned = linked.owned;
    apart = linked.apart;
  }

  grant : (p : Queue) (n d l : ℕ) (k : NamedWaker) (q : Queue) (g : FinMap nat_cmp ℕ) → Linked (p ++ (Acquires n d k, l) ∷ q) g acquires → Linked (p ++ q) (insert g n d) acquires
  grant p n d l k q g linked =
      let mine = are-mid acquires p n d l k q linked.waits in
      record {
        waits = mine.1;
        home = λ f a is. home-still (p ++ (Acquires n d k, l) ∷ q) (p ++ q) g (insert g n d) a (λ e m same home.
            by_name {Z = IsHome (p ++ q) (insert g n d) (Queued e m)} n m
            (λ one.
            let owner = linked.apart k.name f d e n mine.0 (is ∙ ap (λ b. Some b) same ∙ ap (λ j. Some (Queued e j)) (sym one)) in
            let alike : d ≡ e = (let both : get acquires f ≡ Some (Queued d n) = ap (get acquires) (sym owner) ∙ mine.0 in let also = is ∙ ap (λ b. Some b) same in cc) in
            inl (ap (get (insert g n d)) (sym one) ∙ get-there g n d ∙ ap (λ j. Some j) alike))
            (λ differs. elim home [
              | inl held ↦ inl (get-other g n m d differs ∙ held)
              | inr waits ↦ inr (waits.0, sym (waiting-mid p n d l k q m differs) ∙ waits.1)
            ])) (linked.home f a is);
        owned = by_put g n d (λ m o. (e : ℕ) → o ≡ Some e → (f : ℕ) × (get acquires f ≡ Some (Queued e m)))
            (λ e is. (k.name, mine.0 ∙ ap (λ j. Some (Queued j n)) (let same : d ≡ e = cc in same)))
            (λ m differs e is. linked.owned m e is);
        apart = linked.apart;
      }

  -- a queue whose first are paid, and whose others are paid what is left
  pours : (p q : Queue) (before n : ℕ) (g : FinMap nat_cmp ℕ) → Linked (p ++ q) g acquires
      → Linked (p ++ filter (λ (e : Waiter NamedWaker × ℕ). nat_lt 0 e.1) (lacks_after before q n))
      (granting g (map {A = Waiter NamedWaker × ℕ} (λ e. e.0) (filter (λ (e : Waiter NamedWaker × ℕ). e.1 == 0) (lacks_after before q n)))) acquires
  pours p [] before n g linked = linked
  pours p ((Owes, l) ∷ q) before n g linked = elim (some_or_none (min l (before + l - n))) [
    | inl is ↦ rw (is.0, is.1) (rw append_assoc at (pours (p ++ (Owes, min l (before + l - n)) ∷ []) q (before + l) n g (rw append_assoc (lack p Owes l (min l (before + l - n)) q g linked))))
    | inr is ↦ rw (is.0, is.1) (pours p q (before + l) n g (debt p l q g linked))
  ]
  pours p ((Acquires m d k, l) ∷ q) before n g linked = elim (some_or_none (min l (before + l - n))) [
    | inl is ↦ rw (is.0, is.1) (rw append_assoc at (pours (p ++ (Acquires m d k, min l (before + l - n)) ∷ []) q (before + l) n g (rw append_assoc (lack p (Acquires m d k) l (min l (before + l - n)) q g linked))))
    | inr is ↦ rw (is.0, is.1) (pours p q (before + l) n (insert g m d) (grant p m d l k q g linked))
  ]

  pub linked_poured : (q : Queue) (g : FinMap nat_cmp ℕ) (n : ℕ) → Linked q g acquires → Linked (waiting_after q n) (granting g (granted_in q n)) acquires
  linked_poured q g n linked = pours [] q 0 n g linked

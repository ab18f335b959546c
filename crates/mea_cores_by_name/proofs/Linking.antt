-- queues by numbers and queues by names
use Rattle.std.proofs.Common.{◌≡◌, ℕ, ◌==◌, ◌++◌, inl, inr, true, false, cond, List, [], ◌∷◌, Option, Some, None, is_some, refl, ap, sym, subst, ◌∙◌}
use Rattle.std.specs.Ordering.{nat_cmp}
use Rattle.std.specs.FinMap.{FinMap, get, insert, remove}
use Rattle.std.proofs.lemmas.Bool.{eqb-true, eqb-false, eq-eqb, ne_eqb}
use Rattle.mea_base.proofs.Maps.{get-there, get-other, get-removed_other, get-gone, by_put, by_gone, removed_there}
use Rattle.mea_base.proofs.Tests.{by_name}
use Rattle.mea_by_name.specs.declared.named_waker.NamedWaker.{NamedWaker}
use Rattle.mea_by_name.specs.ByName.{Names}
use Rattle.mea_by_name.specs.NamedQueue.{waits, waker_for}
use Rattle.mea_by_name.specs.LackingQueue.{who, lack_for, rewoken, leaving}
use Rattle.mea_sem_core.specs.declared.acquire.Acquire.{Acquire}
use Rattle.mea_sem_core.specs.declared.acquire.Acquire.TheVariants.{New, Queued, Done, Refused}
use Rattle.mea_sem_core.specs.Core.{Waiter, Acquires, Owes, HasNoDebt, waiting}
use Rattle.mea_sem_core.specs.Calls.{with_waker, without_acquire}
use Rattle.mea_cores_by_name.specs.Linked.{who_of, names_in, AreOf, IsHome, Linked}
use Rattle.mea_cores_by_name.proofs.Waiters.{waiting-with, waiting-push, waiting-pushed}
use Rattle.mea_sem_core.proofs.Without.{waiting-without}

abbrev Queue : Type 0
Queue = List (Waiter NamedWaker × ℕ)

-- a future that is not in the queue under a number
abbrev pub IsUnqueued : Option Acquire → Type 0
IsUnqueued None = Unit {0}
IsUnqueued (Some (New d)) = Unit {0}
IsUnqueued (Some (Queued d n)) = ⊥
IsUnqueued (Some (Done d)) = Unit {0}
IsUnqueued (Some (Refused d)) = Unit {0}

pub unqueued_differs : (o p : Option Acquire) (d n : ℕ) → o ≡ p → IsUnqueued o → p ≡ Some (Queued d n) → ⊥
unqueued_differs o p d n same is queued = subst IsUnqueued (same ∙ queued) is

-- two tests that hold together
same_tests : (a b c d : ℕ) → (a ≡ b → c ≡ d) → (c ≡ d → a ≡ b) → (a == b) ≡ (c == d)
same_tests a b c d to back = by_name a b (λ same. eq-eqb a b same ∙ sym (eq-eqb c d (to same))) (λ apart. ne_eqb a b apart ∙ sym (ne_eqb c d (λ same. apart (back same))))

-- each who waits has the number n exactly where it has the name f
abbrev Agrees : Queue → ℕ → ℕ → Type 0
Agrees [] n f = Unit {0}
Agrees ((Acquires m d k, l) ∷ q) n f = ((m == n) ≡ (k.name == f)) × Agrees q n f
Agrees ((Owes, l) ∷ q) n f = Agrees q n f

module _ (acquires : Names Acquire) (f d n : ℕ) (there : get acquires f ≡ Some (Queued d n))
    (apart : (f g d e n : ℕ) → get acquires f ≡ Some (Queued d n) → get acquires g ≡ Some (Queued e n) → f ≡ g) where
  agrees : (q : Queue) → AreOf acquires q → Agrees q n f
  agrees [] are = tt
  agrees ((Acquires m e k, l) ∷ q) are = (
    same_tests m n k.name f (λ same. apart k.name f e d n (are.0 ∙ ap (λ j. Some (Queued e j)) same) there)
        (λ same. let mine : get acquires f ≡ Some (Queued e m) = sym (ap (get acquires) same) ∙ are.0 in cc),
    agrees q are.1,
  )
  agrees ((Owes, l) ∷ q) are = agrees q are

-- ---- the queue by names
waits-names : (q : Queue) (n f : ℕ) → HasNoDebt q → Agrees q n f → waits (who (names_in q)) f ≡ is_some (waiting q n)
waits-names [] n f none agree = refl
waits-names ((Acquires m d k, l) ∷ q) n f none agree = elim (m == n) as (λ b. b ≡ (k.name == f) → is_some (cond (k.name == f) (Some k.waker) (waker_for (who (names_in q)) f)) ≡ is_some (cond b (Some (d, l)) (waiting q n))) [
  | true ↦ λ is. ap (λ b. is_some (cond b (Some k.waker) (waker_for (who (names_in q)) f))) (sym is)
  | false ↦ λ is. ap (λ b. is_some (cond b (Some k.waker) (waker_for (who (names_in q)) f))) (sym is) ∙ waits-names q n f none agree.1
] agree.0
waits-names ((Owes, l) ∷ q) n f none agree = absurd none

lack-names : (q : Queue) (n f d l : ℕ) → HasNoDebt q → Agrees q n f → waiting q n ≡ Some (d, l) → lack_for (names_in q) f ≡ l
lack-names [] n f d l none agree is = absurd (cc)
lack-names ((Acquires m e k, j) ∷ q) n f d l none agree is = elim (m == n) as (λ b. b ≡ (k.name == f) → cond b (Some (e, j)) (waiting q n) ≡ Some (d, l) → cond (k.name == f) j (lack_for (names_in q) f) ≡ l) [
  | true ↦ λ same is. ap (λ b. cond b j (lack_for (names_in q) f)) (sym same) ∙ (let both : ◌≡◌ {A = ℕ × ℕ} (e, j) (d, l) = cc in ap (λ (p : ℕ × ℕ). p.1) both)
  | false ↦ λ same is. ap (λ b. cond b j (lack_for (names_in q) f)) (sym same) ∙ lack-names q n f d l none agree.1 is
] agree.0 is
lack-names ((Owes, j) ∷ q) n f d l none agree is = absurd none

unqueued-names : (acquires : Names Acquire) (q : Queue) (f : ℕ) → HasNoDebt q → AreOf acquires q → IsUnqueued (get acquires f) → waits (who (names_in q)) f ≡ false
unqueued-names acquires [] f none are out = refl
unqueued-names acquires ((Acquires m d k, l) ∷ q) f none are out =
    ap (λ b. is_some (cond b (Some k.waker) (waker_for (who (names_in q)) f))) (ne_eqb k.name f (λ same. unqueued_differs (get acquires f) (get acquires k.name) d m (ap (get acquires) (sym same)) out are.0))
    ∙ unqueued-names acquires q f none are.1 out
unqueued-names acquires ((Owes, l) ∷ q) f none are out = absurd none

with-names : (q : Queue) (n f : ℕ) (v : NamedWaker) → v.name ≡ f → HasNoDebt q → Agrees q n f → names_in (with_waker q n v) ≡ rewoken (names_in q) f v.waker
with-names [] n f v mine none agree = refl
with-names ((Acquires m d k, l) ∷ q) n f v mine none agree = elim (m == n)
    as (λ b. b ≡ (k.name == f) → (((cond b v k).name, (cond b v k).waker), l) ∷ names_in (with_waker q n v) ≡ ((k.name, cond (k.name == f) v.waker k.waker), l) ∷ rewoken (names_in q) f v.waker) [
      | true ↦ λ is i. (((mine ∙ sym (eqb-true k.name f (sym is))) i, ap (λ b. cond b v.waker k.waker) is i), l) ∷ with-names q n f v mine none agree.1 i
      | false ↦ λ is i. ((k.name, ap (λ b. cond b v.waker k.waker) is i), l) ∷ with-names q n f v mine none agree.1 i
    ] agree.0
with-names ((Owes, l) ∷ q) n f v mine none agree = absurd none

without-names : (q : Queue) (n f : ℕ) → HasNoDebt q → Agrees q n f → names_in (without_acquire q n) ≡ leaving (names_in q) f
without-names [] n f none agree = refl
without-names ((Acquires m d k, l) ∷ q) n f none agree = elim (m == n)
    as (λ b. b ≡ (k.name == f) → names_in (cond b (without_acquire q n) ((Acquires m d k, l) ∷ without_acquire q n)) ≡ cond (k.name == f) (leaving (names_in q) f) (((k.name, k.waker), l) ∷ leaving (names_in q) f)) [
      | true ↦ λ is. without-names q n f none agree.1 ∙ ap (λ b. cond b (leaving (names_in q) f) (((k.name, k.waker), l) ∷ leaving (names_in q) f)) is
      | false ↦ λ is. ap (λ ws. ((k.name, k.waker), l) ∷ ws) (without-names q n f none agree.1) ∙ ap (λ b. cond b (leaving (names_in q) f) (((k.name, k.waker), l) ∷ leaving (names_in q) f)) is
    ] agree.0
without-names ((Owes, l) ∷ q) n f none agree = absurd none

pub push-names : (q : Queue) (n d l : ℕ) (k : NamedWaker) → names_in (q ++ (Acquires n d k, l) ∷ []) ≡ names_in q ++ ((k.name, k.waker), l) ∷ []
push-names [] n d l k = refl
push-names (e ∷ q) n d l k = ap (λ ws. (who_of e.0, e.1) ∷ ws) (push-names q n d l k)

-- ---- what is linked
-- whose acquires wait, where the acquires of others changed
are-still : (acquires others : Names Acquire) (q : Queue) → ((g d n : ℕ) → get acquires g ≡ Some (Queued d n) → get others g ≡ Some (Queued d n)) → AreOf acquires q → AreOf others q
are-still acquires others [] keep are = tt
are-still acquires others ((Acquires m d k, l) ∷ q) keep are = (keep k.name d m are.0, are-still acquires others q keep are.1)
are-still acquires others ((Owes, l) ∷ q) keep are = are-still acquires others q keep are

are-without : (acquires : Names Acquire) (q : Queue) (n f : ℕ) → Agrees q n f → AreOf acquires q → AreOf (remove acquires f) (without_acquire q n)
are-without acquires [] n f agree are = tt
are-without acquires ((Acquires m d k, l) ∷ q) n f agree are = elim (m == n)
    as (λ b. b ≡ (k.name == f) → AreOf (remove acquires f) (cond b (without_acquire q n) ((Acquires m d k, l) ∷ without_acquire q n))) [
      | true ↦ λ is. are-without acquires q n f agree.1 are.1
      | false ↦ λ is. (get-removed_other acquires f k.name (λ same. eqb-false k.name f (sym is) (sym same)) ∙ are.0, are-without acquires q n f agree.1 are.1)
    ] agree.0
are-without acquires ((Owes, l) ∷ q) n f agree are = are-without acquires q n f agree are

are-gone : (acquires : Names Acquire) (q : Queue) (n f : ℕ) → Agrees q n f → waiting q n ≡ None → AreOf acquires q → AreOf (remove acquires f) q
are-gone acquires [] n f agree none are = tt
are-gone acquires ((Acquires m d k, l) ∷ q) n f agree none are = elim (m == n)
    as (λ b. b ≡ (k.name == f) → cond b (Some (d, l)) (waiting q n) ≡ None → (get (remove acquires f) k.name ≡ Some (Queued d m)) × AreOf (remove acquires f) q) [
      | true ↦ λ is none. absurd (cc)
      | false ↦ λ is none. (get-removed_other acquires f k.name (λ same. eqb-false k.name f (sym is) (sym same)) ∙ are.0, are-gone acquires q n f agree.1 none are.1)
    ] agree.0 none
are-gone acquires ((Owes, l) ∷ q) n f agree none are = are-gone acquires q n f agree none are

are-with : (acquires : Names Acquire) (q : Queue) (n f : ℕ) (v : NamedWaker) → v.name ≡ f → Agrees q n f → AreOf acquires q → AreOf acquires (with_waker q n v)
are-with acquires [] n f v mine agree are = tt
are-with acquires ((Acquires m d k, l) ∷ q) n f v mine agree are = elim (m == n)
    as (λ b. b ≡ (k.name == f) → (get acquires (cond b v k).name ≡ Some (Queued d m)) × AreOf acquires (with_waker q n v)) [
      | true ↦ λ is. (ap (get acquires) (mine ∙ sym (eqb-true k.name f (sym is))) ∙ are.0, are-with acquires q n f v mine agree.1 are.1)
      | false ↦ λ is. (are.0, are-with acquires q n f v mine agree.1 are.1)
    ] agree.0
are-with acquires ((Owes, l) ∷ q) n f v mine agree are = are-with acquires q n f v mine agree are

are-push : (acquires : Names Acquire) (q : Queue) (n d l : ℕ) (k : NamedWaker) → AreOf acquires q → get acquires k.name ≡ Some (Queued d n) → AreOf acquires (q ++ (Acquires n d k, l) ∷ [])
are-push acquires [] n d l k are is = (is, tt)
are-push acquires ((Acquires m e v, j) ∷ q) n d l k are is = (are.0, are-push acquires q n d l k are.1 is)
are-push acquires ((Owes, j) ∷ q) n d l k are is = are-push acquires q n d l k are is

-- an acquire stays home where what was granted and what waits is so still
pub home-still : (q r : Queue) (g h : FinMap nat_cmp ℕ) (a : Acquire) → ((d n : ℕ) → a ≡ Queued d n → IsHome q g (Queued d n) → IsHome r h (Queued d n)) → IsHome q g a → IsHome r h a
home-still q r g h (New d) keep is = tt
home-still q r g h (Queued d n) keep is = keep d n refl is
home-still q r g h (Done d) keep is = is
home-still q r g h (Refused d) keep is = is

module _ (q : Queue) (granted : FinMap nat_cmp ℕ) (acquires : Names Acquire) (linked : Linked q granted acquires) (f : ℕ) where
  -- ---- who has no number
  module _ (out : IsUnqueued (get acquires f)) where
    not_it : (g d n : ℕ) → get acquires g ≡ Some (Queued d n) → f ≡ g → ⊥
    not_it g d n is same = unqueued_differs (get acquires f) (get acquires g) d n (ap (get acquires) same) out is

    pub unqueued_waits : HasNoDebt q → waits (who (names_in q)) f ≡ false
    unqueued_waits none = unqueued-names acquires q f none linked.waits out

    -- it is gone
    pub linked_gone : Linked q granted (remove acquires f)
    linked_gone = record {
      waits = are-still acquires (remove acquires f) q (λ g d n is. get-removed_other acquires f g (not_it g d n is) ∙ is) linked.waits;
      home = λ g a is. linked.home g a (removed_there acquires f g a is);
      owned = λ n d is. let one = linked.owned n d is in (one.0, get-removed_other acquires f one.0 (not_it one.0 d n one.1) ∙ one.1);
      apart = λ g j d e n is there. linked.apart g j d e n (removed_there acquires f g _ is) (removed_there acquires f j _ there);
    }

    -- it is made
    pub linked_begun : (d : ℕ) → Linked q granted (insert acquires f (New d))
    linked_begun b =
        let had = λ (g d n : ℕ) (is : get (insert acquires f (New b)) g ≡ Some (Queued d n)). by_put acquires f (New b) (λ g o. o ≡ Some (Queued d n) → get acquires g ≡ Some (Queued d n)) (λ is. absurd (cc)) (λ g apart is. is) g is in
        record {
          waits = are-still acquires (insert acquires f (New b)) q (λ g d n is. get-other acquires f g (New b) (not_it g d n is) ∙ is) linked.waits;
          home = by_put acquires f (New b) (λ g o. (a : Acquire) → o ≡ Some a → IsHome q granted a) (λ a is. let same : New b ≡ a = cc in subst (IsHome q granted) same tt) (λ g apart a is. linked.home g a is);
          owned = λ n d is. let one = linked.owned n d is in (one.0, get-other acquires f one.0 (New b) (not_it one.0 d n one.1) ∙ one.1);
          apart = λ g j d e n is there. linked.apart g j d e n (had g d n is) (had j e n there);
        }

    -- it goes to the end of the queue, under a fresh number
    pub linked_pushed : (n d l : ℕ) (k : NamedWaker) → k.name ≡ f → waiting q n ≡ None → get granted n ≡ None → Linked (q ++ (Acquires n d k, l) ∷ []) granted (insert acquires f (Queued d n))
    linked_pushed n d l k mine no_wait no_grant =
        let fresh = λ (g e : ℕ) (is : get acquires g ≡ Some (Queued e n)). elim (linked.home g (Queued e n) is) as (λ h. ⊥) [
          | inl held ↦ absurd (cc)
          | inr waits ↦ let some = waits.1 in absurd (cc)
        ] in
        record {
          waits = are-push (insert acquires f (Queued d n)) q n d l k
              (are-still acquires (insert acquires f (Queued d n)) q (λ g e m is. get-other acquires f g (Queued d n) (not_it g e m is) ∙ is) linked.waits)
              (ap (get (insert acquires f (Queued d n))) mine ∙ get-there acquires f (Queued d n));
          home = by_put acquires f (Queued d n) (λ g o. (a : Acquire) → o ≡ Some a → IsHome (q ++ (Acquires n d k, l) ∷ []) granted a)
              (λ a is. let same : Queued d n ≡ a = cc in subst (IsHome (q ++ (Acquires n d k, l) ∷ []) granted) same (inr (l, waiting-pushed q n d l k no_wait)))
              (λ g apart a is. home-still q (q ++ (Acquires n d k, l) ∷ []) granted granted a (λ e m same home. elim home [
                | inl held ↦ inl held
                | inr waits ↦ inr (waits.0, waiting-push q (Acquires n d k, l) m _ waits.1)
              ]) (linked.home g a is));
          owned = λ m e is. let one = linked.owned m e is in (one.0, get-other acquires f one.0 (Queued d n) (not_it one.0 e m one.1) ∙ one.1);
          apart = λ g j e i m. by_put acquires f (Queued d n) (λ g o. o ≡ Some (Queued e m) → get (insert acquires f (Queued d n)) j ≡ Some (Queued i m) → g ≡ j)
              (λ is. by_put acquires f (Queued d n) (λ j o. o ≡ Some (Queued i m) → f ≡ j) (λ there. refl) (λ j other there. absurd (fresh j i (let same : n ≡ m = cc in rw same there))) j)
              (λ g other is. by_put acquires f (Queued d n) (λ j o. o ≡ Some (Queued i m) → g ≡ j) (λ there. absurd (fresh g e (let same : n ≡ m = cc in rw same is))) (λ j another there. linked.apart g j e i m is there) j) g;
        }

  -- ---- who has a number
  module _ (d n : ℕ) (there : get acquires f ≡ Some (Queued d n)) where
    agreed : Agrees q n f
    agreed = agrees acquires f d n there linked.apart q linked.waits

    pub queued_waits : HasNoDebt q → waits (who (names_in q)) f ≡ is_some (waiting q n)
    queued_waits none = waits-names q n f none agreed

    pub queued_lacks : (e l : ℕ) → HasNoDebt q → waiting q n ≡ Some (e, l) → lack_for (names_in q) f ≡ l
    queued_lacks e l none is = lack-names q n f e l none agreed is

    pub queued_with : (v : NamedWaker) → v.name ≡ f → HasNoDebt q → names_in (with_waker q n v) ≡ rewoken (names_in q) f v.waker
    queued_with v mine none = with-names q n f v mine none agreed

    pub queued_without : HasNoDebt q → names_in (without_acquire q n) ≡ leaving (names_in q) f
    queued_without none = without-names q n f none agreed

    -- another has another number
    other_number : (g e m : ℕ) → get (remove acquires f) g ≡ Some (Queued e m) → n ≡ m → ⊥
    other_number g e m is same =
        let was = removed_there acquires f g (Queued e m) is in
        let one : f ≡ g = linked.apart f g d e n there (rw same was) in
        let gone : get (remove acquires f) g ≡ None = ap (get (remove acquires f)) (sym one) ∙ get-gone acquires f in
        absurd (cc)

    others_apart : (g j e i m : ℕ) → get (remove acquires f) g ≡ Some (Queued e m) → get (remove acquires f) j ≡ Some (Queued i m) → g ≡ j
    others_apart g j e i m is also = linked.apart g j e i m (removed_there acquires f g _ is) (removed_there acquires f j _ also)

    -- it waits on with another waker
    pub linked_again : (v : NamedWaker) → v.name ≡ f → Linked (with_waker q n v) granted acquires
    linked_again v mine = record {
      waits = are-with acquires q n f v mine agreed linked.waits;
      home = λ g a is. home-still q (with_waker q n v) granted granted a (λ e m same home. elim home [
        | inl held ↦ inl held
        | inr waits ↦ inr (waits.0, waiting-with q n v m ∙ waits.1)
      ]) (linked.home g a is);
      owned = linked.owned;
      apart = linked.apart;
    }

    -- who is not it owns another granted number
    owner_stays : (m e : ℕ) → (n ≡ m → ⊥) → get granted m ≡ Some e → (g : ℕ) × (get (remove acquires f) g ≡ Some (Queued e m))
    owner_stays m e differs is =
        let one = linked.owned m e is in
        (one.0, get-removed_other acquires f one.0 (λ same. let mine : get acquires f ≡ Some (Queued e m) = ap (get acquires) same ∙ one.1 in differs (cc)) ∙ one.1)

    -- it was granted, and takes what it was granted
    pub linked_taken : waiting q n ≡ None → Linked q (remove granted n) (remove acquires f)
    linked_taken none = record {
      waits = are-gone acquires q n f agreed none linked.waits;
      home = λ g a is. home-still q q granted (remove granted n) a (λ e m same home. elim home [
        | inl held ↦ inl (get-removed_other granted n m (other_number g e m (is ∙ ap (λ b. Some b) same)) ∙ held)
        | inr waits ↦ inr waits
      ]) (linked.home g a (removed_there acquires f g a is));
      owned = λ m e is. by_gone granted n (λ m o. o ≡ Some e → (g : ℕ) × (get (remove acquires f) g ≡ Some (Queued e m))) (λ is. absurd (cc)) (λ m differs is. owner_stays m e differs is) m is;
      apart = others_apart;
    }

    -- it waits, and leaves
    pub linked_left : get granted n ≡ None → Linked (without_acquire q n) granted (remove acquires f)
    linked_left none = record {
      waits = are-without acquires q n f agreed linked.waits;
      home = λ g a is. home-still q (without_acquire q n) granted granted a (λ e m same home. elim home [
        | inl held ↦ inl held
        | inr waits ↦ inr (waits.0, waiting-without q n m (other_number g e m (is ∙ ap (λ b. Some b) same)) ∙ waits.1)
      ]) (linked.home g a (removed_there acquires f g a is));
      owned = λ m e is. owner_stays m e (λ same. let nothing : get granted m ≡ None = ap (get granted) (sym same) ∙ none in absurd (cc)) is;
      apart = others_apart;
    }

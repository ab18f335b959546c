-- the sends that wait at a channel: what stands in its queue, and how many were granted a place, after each change
use Rattle.std.proofs.Common.{◌≡◌, ℕ, ◌+◌, ◌-◌, ◌≤◌, ◌==◌, ◌++◌, Bool, true, false, cond, not, [], ◌∷◌, filter, min, nat_lt, Option, Some, None, is_some, if◌then◌else◌, refl, ap, sym, subst, ◌∙◌, arith}
use Rattle.std.specs.FinMap.{get, remove}
use Rattle.std.proofs.lemmas.Bool.{eqb-true, eqb-false, eq-eqb, ne_eqb}
use Rattle.std.proofs.lemmas.Bool.Decides.{nat_tests}
use Rattle.std.proofs.lemmas.List.Sums.{sum_by-cons}
use Rattle.mea_base.specs.Queue.{lacks, lacks_after, waiting_after}
use Rattle.mea_base.specs.Totals.{total, weight}
use Rattle.mea_base.proofs.Maps.{get-removed_other, get-gone}
use Rattle.mea_base.proofs.Tests.{by_name}
use Rattle.mea_base.proofs.Totals.{total-alike, total-remove}
use Rattle.mea_by_name.specs.ByName.{Names}
use Rattle.mea_by_name.specs.NamedQueue.{Waiting, waits, waker_for, with_waker}
use Rattle.mea_by_name.specs.LackingQueue.{Lacking, who, rewoken, leaving}
use Rattle.mea_by_name.proofs.NamedQueues.{without-other, appended-other}
use Rattle.mea_by_name.proofs.LackingQueues.{who-leaving, who-rewoken, who-append}
use Rattle.mea_chan_model.specs.Bounded.{BoundedSend}
use Rattle.mea_chan_model.specs.Sends.{is_pending_at, is_granted_at, granted_of}

-- f waits at o with w: it is a send of o, and was polled last with that waker
pub record WaitsFor (xs : Names BoundedSend) (last : ℕ → Option ℕ) (o f w : ℕ) : Type 0 where
  pub x : BoundedSend
  pub there : get xs f ≡ Some x
  pub of : x.channel ≡ o
  pub polled : x.polled ≡ true
  pub told : last f ≡ Some w

-- each in the queue of o lacks one place, stands there once, and waits at o
abbrev pub InLine : Names BoundedSend → (ℕ → Option ℕ) → ℕ → Lacking → Type 0
InLine xs last o [] = Unit {0}
InLine xs last o (e ∷ q) = (e.1 ≡ 1) × (waits (who q) e.0.0 ≡ false) × WaitsFor xs last o e.0.0 e.0.1 × InLine xs last o q

waits-here : (e : (ℕ × ℕ) × ℕ) (q : Lacking) → waits (who (e ∷ q)) e.0.0 ≡ true
waits-here e q = ap (λ b. is_some (cond b (Some e.0.1) (waker_for (who q) e.0.0))) (eq-eqb e.0.0 e.0.0 refl)

waits-later : (e : (ℕ × ℕ) × ℕ) (q : Lacking) (f : ℕ) → waits (who q) f ≡ true → waits (who (e ∷ q)) f ≡ true
waits-later e q f is = elim (e.0.0 == f) as (λ b. is_some (cond b (Some e.0.1) (waker_for (who q) f)) ≡ true) [ true ↦ refl | false ↦ is ]

waits-other : (e : (ℕ × ℕ) × ℕ) (q : Lacking) (f : ℕ) → (e.0.0 ≡ f → ⊥) → waits (who (e ∷ q)) f ≡ waits (who q) f
waits-other e q f apart = ap (λ b. is_some (cond b (Some e.0.1) (waker_for (who q) f))) (ne_eqb e.0.0 f apart)

module _ (xs : Names BoundedSend) (last : ℕ → Option ℕ) (o : ℕ) where
  pub line_at : (q : Lacking) (f w : ℕ) → InLine xs last o q → waker_for (who q) f ≡ Some w → WaitsFor xs last o f w
  line_at [] f w line is = absurd (cc)
  line_at (e ∷ q) f w line is_one = elim (e.0.0 == f) as (λ b. (e.0.0 == f) ≡ b → cond b (Some e.0.1) (waker_for (who q) f) ≡ Some w → WaitsFor xs last o f w) [
    | true ↦ λ is h. let same : e.0.1 ≡ w = cc in subst (λ g. WaitsFor xs last o g w) (eqb-true e.0.0 f is) (subst (λ v. WaitsFor xs last o e.0.0 v) same line.2)
    | false ↦ λ is h. line_at q f w line.3 h
  ] refl is_one

  module _ (xs' : Names BoundedSend) (last' : ℕ → Option ℕ) where
    pub line_map : (q : Lacking) → ((f w : ℕ) → waits (who q) f ≡ true → WaitsFor xs last o f w → WaitsFor xs' last' o f w) → InLine xs last o q → InLine xs' last' o q
    line_map [] keep line = tt
    line_map (e ∷ q) keep line = (line.0, line.1, keep e.0.0 e.0.1 (waits-here e q) line.2, line_map q (λ f w is. keep f w (waits-later e q f is)) line.3)

    -- f waits with another waker
    pub line_rewoken : (q : Lacking) (f w : ℕ) → WaitsFor xs' last' o f w → ((g v : ℕ) → (f ≡ g → ⊥) → WaitsFor xs last o g v → WaitsFor xs' last' o g v) → InLine xs last o q → InLine xs' last' o (rewoken q f w)
    line_rewoken [] f w its keep line = tt
    line_rewoken (e ∷ q) f w its keep line = (
      line.0,
      still e.0.0 line.1,
      at (e.0.0 == f) refl,
      line_rewoken q f w its keep line.3,
    )
      where
        some_by : (g : ℕ) (p : Waiting) → is_some (waker_for (with_waker p f w) g) ≡ is_some (waker_for p g)
        some_by g [] = refl
        some_by g (d ∷ p) = elim (d.0 == g) as (λ b. is_some (cond b (Some (cond (d.0 == f) w d.1)) (waker_for (with_waker p f w) g)) ≡ is_some (cond b (Some d.1) (waker_for p g))) [ true ↦ refl | false ↦ some_by g p ]

        still : (g : ℕ) → waits (who q) g ≡ false → waits (who (rewoken q f w)) g ≡ false
        still g is = ap (λ p. waits p g) (who-rewoken q f w) ∙ some_by g (who q) ∙ is

        at : (b : Bool) → (e.0.0 == f) ≡ b → WaitsFor xs' last' o e.0.0 (cond b w e.0.1)
        at true is = subst (λ g. WaitsFor xs' last' o g w) (sym (eqb-true e.0.0 f is)) its
        at false is = keep e.0.0 e.0.1 (λ same. eqb-false e.0.0 f is (sym same)) line.2

    -- f waits last
    pub line_pushed : (q : Lacking) (f w : ℕ) → waits (who q) f ≡ false → WaitsFor xs' last' o f w → ((g v : ℕ) → waits (who q) g ≡ true → WaitsFor xs last o g v → WaitsFor xs' last' o g v) → InLine xs last o q → InLine xs' last' o (q ++ ((f, w), 1) ∷ [])
    line_pushed [] f w new its keep line = (refl, refl, its, tt)
    line_pushed (e ∷ q) f w new its keep line = (
      line.0,
      ap (λ p. waits p e.0.0) (who-append q (((f, w), 1) ∷ [])) ∙ ap is_some (appended-other (who q) f w e.0.0 apart) ∙ line.1,
      keep e.0.0 e.0.1 (waits-here e q) line.2,
      line_pushed q f w (sym (waits-other e q f (λ same. apart (sym same))) ∙ new) its (λ g v is. keep g v (waits-later e q g is)) line.3,
    )
      where
        apart : f ≡ e.0.0 → ⊥
        apart same = absurd (let here = waits-here e q in let none = ap (waits (who (e ∷ q))) (sym same) ∙ new in cc)

    -- f waits no more
    pub line_left : (q : Lacking) (f : ℕ) → ((g v : ℕ) → (f ≡ g → ⊥) → WaitsFor xs last o g v → WaitsFor xs' last' o g v) → InLine xs last o q → InLine xs' last' o (leaving q f)
    line_left [] f keep line = tt
    line_left (e ∷ q) f keep line = at (e.0.0 == f) refl (line_left q f keep line.3)
      where
        at : (b : Bool) → (e.0.0 == f) ≡ b → InLine xs' last' o (leaving q f) → InLine xs' last' o (cond b (leaving q f) (e ∷ leaving q f))
        at true is rest = rest
        at false is rest = (
          line.0,
          ap (λ p. waits p e.0.0) (who-leaving q f) ∙ ap is_some (without-other (who q) f e.0.0 (λ same. eqb-false e.0.0 f is (sym same))) ∙ line.1,
          keep e.0.0 e.0.1 (λ same. eqb-false e.0.0 f is (sym same)) line.2,
          rest,
        )

  -- ---- one place is granted, or as many as all lack
  lacks_stay : (before n : ℕ) (q : Lacking) → n ≤ before → InLine xs last o q → filter {X = (ℕ × ℕ) × ℕ} (λ e. nat_lt 0 e.1) (lacks_after before q n) ≡ q
  lacks_stay before n [] few line = refl
  lacks_stay before n ((e, l) ∷ q) few line =
      let same : min l (before + l - n) ≡ l = omega (arith, line.0, few) in
      let some : nat_lt 0 (min l (before + l - n)) ≡ true = grind (arith, nat_tests, same, line.0) in
      rw some (let rest = lacks_stay (before + l) n q (omega (arith, few)) line.3 in λ j. (e, same j) ∷ rest j)

  pub one_granted : (e : (ℕ × ℕ) × ℕ) (q : Lacking) → InLine xs last o (e ∷ q) → waiting_after (e ∷ q) 1 ≡ q
  one_granted (e, l) q line =
      let none : nat_lt 0 (min l (0 + l - 1)) ≡ false = grind (arith, nat_tests, line.0) in
      rw none (lacks_stay (0 + l) 1 q (omega (arith, line.0)) line.3)

  pub all_granted_none : (before n : ℕ) (q : Lacking) → before + lacks q ≤ n → filter {X = (ℕ × ℕ) × ℕ} (λ e. nat_lt 0 e.1) (lacks_after before q n) ≡ []
  all_granted_none before n [] few = refl
  all_granted_none before n ((e, l) ∷ q) few =
      let sum : lacks ((e, l) ∷ q) ≡ l + lacks q = sum_by-cons {X = (ℕ × ℕ) × ℕ} (λ e. e.1) (e, l) q in
      let none : nat_lt 0 (min l (before + l - n)) ≡ false = grind (arith, nat_tests, sum, few) in
      rw none (all_granted_none (before + l) n q (omega (arith, few, sum)))

-- ---- how many were granted a place
total-apart : {X : Type 0} (f g : ℕ → X → ℕ) (m n : Names X) (k : ℕ) → ((j : ℕ) → (k ≡ j → ⊥) → weight f j (get m j) ≡ weight g j (get n j)) → total f m + weight g k (get n k) ≡ total g n + weight f k (get m k)
total-apart f g m n k same =
    let rest : total f (remove m k) ≡ total g (remove n k) = total-alike f g (remove m k) (remove n k) (λ j. by_name k j
    (λ is. ap (weight f j) (ap (get (remove m k)) (sym is) ∙ get-gone m k) ∙ sym (ap (weight g j) (ap (get (remove n k)) (sym is) ∙ get-gone n k)))
    (λ apart. ap (weight f j) (get-removed_other m k j apart) ∙ same j apart ∙ sym (ap (weight g j) (get-removed_other n k j apart)))) in
    omega (arith, rest, total-remove f m k, total-remove g n k)

-- whether f was granted a place at o
abbrev pub counts_at : Lacking → ℕ → ℕ → BoundedSend → ℕ
counts_at q o f x = cond (is_granted_at q o f x) 1 0

-- where the queue and the sends are alike but at k
pub granted_apart : (q q' : Lacking) (xs xs' : Names BoundedSend) (o k : ℕ) → ((f : ℕ) → (k ≡ f → ⊥) → get xs' f ≡ get xs f) → ((f : ℕ) → (k ≡ f → ⊥) → waits (who q') f ≡ waits (who q) f)
    → granted_of q' xs' o + weight (counts_at q o) k (get xs k) ≡ granted_of q xs o + weight (counts_at q' o) k (get xs' k)
granted_apart q q' xs xs' o k others queues = total-apart (counts_at q' o) (counts_at q o) xs' xs k (λ j apart. ap (weight (counts_at q' o) j) (others j apart) ∙ at j (get xs j) (queues j apart))
  where
    at : (j : ℕ) (p : Option BoundedSend) → waits (who q') j ≡ waits (who q) j → weight (counts_at q' o) j p ≡ weight (counts_at q o) j p
    at j None same = refl
    at j (Some x) same = ap (λ b. cond {A = ℕ} (if is_pending_at o x then not b else false) 1 0) same

-- k counts as one at the most, and as none where it waits or is of another channel
pub weighs_one : (q : Lacking) (o k : ℕ) (p : Option BoundedSend) → weight (counts_at q o) k p ≤ 1
weighs_one q o k None = omega arith
weighs_one q o k (Some x) = elim (is_granted_at q o k x) as (λ b. cond b 1 0 ≤ 1) [ true ↦ omega arith | false ↦ omega arith ]

pub weighs_none : (q : Lacking) (o k : ℕ) (p : Option BoundedSend) → ((x : BoundedSend) → p ≡ Some x → is_granted_at q o k x ≡ false) → weight (counts_at q o) k p ≡ 0
weighs_none q o k None none = refl
weighs_none q o k (Some x) none = ap (λ b. cond b 1 0) (none x refl)

pub not_granted_elsewhere : (q : Lacking) (o k : ℕ) (x : BoundedSend) → (x.channel ≡ o → ⊥) → is_granted_at q o k x ≡ false
not_granted_elsewhere q o k x apart = ap (λ b. if (if b then x.polled else false) then not (waits (who q) k) else false) (ne_eqb x.channel o apart)

pub not_granted_new : (q : Lacking) (o k : ℕ) (x : BoundedSend) → x.polled ≡ false → is_granted_at q o k x ≡ false
not_granted_new q o k x new = ap (λ b. if (if x.channel == o then b else false) then not (waits (who q) k) else false) new ∙ (elim (x.channel == o) as (λ b. (if (if b then false else false) then not (waits (who q) k) else false) ≡ false) [ true ↦ refl | false ↦ refl ])

pub not_granted_waiting : (q : Lacking) (o k : ℕ) (x : BoundedSend) → waits (who q) k ≡ true → is_granted_at q o k x ≡ false
not_granted_waiting q o k x waiting = ap (λ b. if is_pending_at o x then not b else false) waiting ∙ (elim (is_pending_at o x) as (λ b. (if b then not true else false) ≡ false) [ true ↦ refl | false ↦ refl ])

pub granted_there : (q : Lacking) (o k : ℕ) (x : BoundedSend) → x.channel ≡ o → x.polled ≡ true → waits (who q) k ≡ false → is_granted_at q o k x ≡ true
granted_there q o k x mine polled free = rw (eq-eqb x.channel o mine, polled, free) refl

-- the first who waits is granted a place
pub first_counts : (xs : Names BoundedSend) (last : ℕ → Option ℕ) (o : ℕ) (e : (ℕ × ℕ) × ℕ) (q : Lacking) → InLine xs last o (e ∷ q) → granted_of q xs o ≡ granted_of (e ∷ q) xs o + 1
first_counts xs last o e q line =
    let its = line.2 in
    let all = granted_apart (e ∷ q) q xs xs o e.0.0 (λ f apart. refl) (λ f apart. sym (waits-other e q f apart)) in
    let before : weight (counts_at (e ∷ q) o) e.0.0 (get xs e.0.0) ≡ 0 = weighs_none (e ∷ q) o e.0.0 (get xs e.0.0) (λ x is. not_granted_waiting (e ∷ q) o e.0.0 x (waits-here e q)) in
    let after : weight (counts_at q o) e.0.0 (get xs e.0.0) ≡ 1 = ap (weight (counts_at q o) e.0.0) its.there ∙ ap (λ b. cond {A = ℕ} b 1 0) (granted_there q o e.0.0 its.x its.of its.polled line.1) in
    omega (arith, all, before, after)

-- what each action changes: one point and one future at the most, at each of the two ends
use Rattle.std.proofs.Common.{◌≡◌, ℕ, ◌+◌, ◌≤◌, ◌==◌, ◌++◌, Bool, true, false, cond, length, List, [], Option, Some, None, IsSome, is_some, if◌then◌else◌, refl, ap, sym, ◌∙◌, arith, append-nil}
use Rattle.std.specs.FinMap.{get, insert, remove}
use Rattle.std.proofs.lemmas.Bool.{eqb-true, eq-eqb}
use Rattle.std.proofs.lemmas.List.{length-append}
use Rattle.mea_base.proofs.Totals.{total-plus}
use Rattle.mea_base.proofs.Maps.{get-gone, get-removed_other, is_there}
use Rattle.mea_family.specs.Family.{Outcome, quietly}
use Rattle.mea_family.specs.Play.{found}
use Rattle.mea_family.specs.declared.answer.Answer.TheVariants as answers
use Rattle.mea_by_name.specs.ByName.{Names}
use Rattle.mea_by_name.specs.NamedQueue.{Waiting, wakers}
use Rattle.mea_by_name.proofs.Cases.{by_found, by_if}
use Rattle.mea_by_name.proofs.Own.{own-nothing}
use Rattle.mea_by_name.proofs.NamedQueues.{Local, local_same, local_registering, local_drained}
use Rattle.mea_by_name.proofs.OneObject.{Goes, ObjectsGo, FuturesGo, Touches, Same, Put, Made, Gone, Kept, Begun, Ended, None_is, Polled, Ends, Counted, counted_same, counted_put, counted_made, counted_gone}
use Rattle.mea_meet_model.specs.Count.{Count, ends, decreased, woken_by, with_waker}
use Rattle.mea_meet_model.specs.Counts as counts
use Rattle.mea_meet_model.specs.Counts.{Counts, Point, End, OfSignal, OfMembers, Holder, Awaited, Signal, Members, Wait, New, count_at, with_count, end_of, joined, parted, woken_by_end, is_holder, registered, things_of, of_wait}
use Rattle.mea_meet_model.specs.CountActions.{Action, Make, Arrive, Begin, Join, Watch, Into, EndHolder, Copy, Poll, EndWait, EndEither, CopySender, Send, Await, EndSender, act_in, polled_in, ends_in, registers_in, end_by, leave_by}
use Rattle.mea_meet_model.specs.Valid.{HasCounts}
use Rattle.mea_meet_model.proofs.ByHolder.{by_holder}

-- who is registered on an end
abbrev pub queue_at : End → Point → Waiting
queue_at e r = (count_at e r).waiting

-- what is woken at one end, of what is woken at both
abbrev pub at_end : End → List ℕ → List ℕ → List ℕ
at_end OfSignal ws vs = ws
at_end OfMembers ws vs = vs

-- how many may come at one end
abbrev pub coming : End → Option End → ℕ
coming e None = 0
coming OfSignal (Some OfSignal) = 1
coming OfSignal (Some OfMembers) = 0
coming OfMembers (Some OfSignal) = 0
coming OfMembers (Some OfMembers) = 1

local_decreased : (c : Count) (n k : ℕ) → Local c.waiting (decreased c n).waiting (woken_by c n) k 0
local_decreased c n k = elim (ends c n) as (λ b. Local c.waiting (if b then [] else c.waiting) (if b then wakers c.waiting else []) k 0) [ true ↦ local_drained c.waiting k | false ↦ local_same c.waiting k ]

-- the points and futures before some event
abbrev pub IsReached : Counts → Type 0
IsReached h = (n : ℕ) × HasCounts h n

module _ (h : Counts) (polled : ℕ → Option ℕ) (ends : ℕ → Bool) (i most : ℕ) where
  abbrev C : Type 0
  C = IsReached h

  -- what an event does to the points, at each end: one changes at the most, and a waker comes at this end, if at any
  abbrev Points : ℕ → Option End → Names Point → List ℕ → List ℕ → Type 0
  Points k comes ps ws vs = (e : End) → ObjectsGo (queue_at e) of_wait h.points h.waits C i k (coming e comes) ps (at_end e ws vs)

  -- an event changes one point and one future at the most, and wakes these at either end
  pub record Acts (o : Outcome Counts) : Type 0 where
    pub k : ℕ
    pub comes : Option End
    pub few : coming OfSignal comes + coming OfMembers comes ≤ most
    pub signal : List ℕ
    pub members : List ℕ
    pub wakes : o.wakes ≡ signal ++ members
    pub points : (e : End) → ObjectsGo (queue_at e) of_wait h.points h.waits (IsReached h) i k (coming e comes) o.hall.points (at_end e signal members)
    pub futures : (e : End) → FuturesGo (queue_at e) of_wait h.points h.waits (IsReached h) i k o.hall.waits
    pub touches : (e : End) → Touches (queue_at e) of_wait polled ends i k
    pub over : IsReached h → (f : ℕ) → ends f ≡ true → get o.hall.waits f ≡ None

  same : (k : ℕ) → Points k None h.points [] []
  same k OfSignal = Same
  same k OfMembers = Same

  -- a point is this now
  put : (k o : ℕ) (r p : Point) (comes : Option End) (ws vs : List ℕ) → get h.points o ≡ Some r → Local (queue_at OfSignal r) (queue_at OfSignal p) ws k (coming OfSignal comes) → Local (queue_at OfMembers r) (queue_at OfMembers p) vs k (coming OfMembers comes)
      → Points k comes (insert h.points o p) ws vs
  put k o r p comes ws vs there first second OfSignal = Put o r p ws (coming OfSignal comes) there first (omega arith)
  put k o r p comes ws vs there first second OfMembers = Put o r p vs (coming OfMembers comes) there second (omega arith)

  gone : (k o : ℕ) (r : Point) (ws vs : List ℕ) → get h.points o ≡ Some r → length ws ≤ length r.signal.waiting → length vs ≤ length r.members.waiting → (C → (f : ℕ) (x : Wait) → (k ≡ f → ⊥) → get h.waits f ≡ Some x → o ≡ of_wait x → ⊥)
      → Points k None (remove h.points o) ws vs
  gone k o r ws vs there first second alone OfSignal = Gone o r ws there first alone
  gone k o r ws vs there first second alone OfMembers = Gone o r vs there second alone

  tidies : (m : Counts) (k o : ℕ) (r p : Point) (ws vs : List ℕ) → get h.points o ≡ Some r → Local (queue_at OfSignal r) (queue_at OfSignal p) ws k 0 → Local (queue_at OfMembers r) (queue_at OfMembers p) vs k 0
      → m.points ≡ h.points → ((f : ℕ) (x : Wait) → (k ≡ f → ⊥) → get h.waits f ≡ Some x → get m.waits f ≡ Some x) → Points k None (counts.tidied m o p).points ws vs
  tidies m k o r p ws vs there first second alike keep = by_if (λ ps. Points k None ps ws vs) (things_of m o == 0) _ _
      (λ none. rw alike (gone k o r ws vs there first.most second.most (λ allowed f x apart is mine. own-nothing of_wait o m.waits (let nothing = eqb-true (things_of m o) 0 none in omega (arith, nothing)) f x (keep f x apart is) mine)))
      (λ some. rw alike (put k o r p None ws vs there first second))

  parted_local : (r : Point) (b : Bool) → Local r.members.waiting (parted r b).members.waiting (woken_by_end r b) i 0
  parted_local r true = local_decreased r.members 1 i
  parted_local r false = local_same r.members.waiting i

  -- ---- no future changes
  module _ (over : IsReached h → (f : ℕ) → ends f ≡ true → get h.waits f ≡ None) where
    rests : (o : Outcome Counts) → o.hall.points ≡ h.points → o.hall.waits ≡ h.waits → o.wakes ≡ [] → Acts o
    rests o points waits silent =
        record { k = i; comes = None; few = omega arith; signal = []; members = []; wakes = silent; points = rw points (same i); futures = λ e. rw waits Kept; touches = λ e. None_is refl; over = λ reached f is. ap (λ m. get m f) waits ∙ over reached f is }

    still : Acts (quietly h answers.Done)
    still = rests (quietly h answers.Done) refl refl refl

    leaves_point : (o : Outcome Counts) (ws vs : List ℕ) → o.wakes ≡ ws ++ vs → Points i None o.hall.points ws vs → o.hall.waits ≡ h.waits → Acts o
    leaves_point o ws vs woken points waits =
        record { k = i; comes = None; few = omega arith; signal = ws; members = vs; wakes = woken; points = points; futures = λ e. rw waits Kept; touches = λ e. None_is refl; over = λ reached f is. ap (λ m. get m f) waits ∙ over reached f is }

    arrives : (m q : ℕ) (r : Point) → get h.points q ≡ Some r → Acts (counts.arrive h m q r)
    arrives m q r there = leaves_point (counts.arrive h m q r) (woken_by r.signal m) [] (sym (append-nil (woken_by r.signal m)))
        (put i q r (record r { signal = decreased r.signal m }) None (woken_by r.signal m) [] there (local_decreased r.signal m i) (local_same r.members.waiting i)) refl

    joins : (q : ℕ) (counted : Bool) (r : Point) → get h.points q ≡ Some r → Acts (counts.join h i q counted r)
    joins q counted r there = leaves_point (counts.join h i q counted r) [] [] refl (put i q r (joined r counted) None [] [] there (local_same r.signal.waiting i) (at counted)) refl
      where
        at : (b : Bool) → Local r.members.waiting (joined r b).members.waiting [] i 0
        at true = local_same r.members.waiting i
        at false = local_same r.members.waiting i

    makes : (new : New) → Acts (counts.make h i new)
    makes new = leaves_point (counts.make h i new) [] [] refl made refl
      where
        made : Points i None (insert h.points i (counts.new_point new)) [] []
        made OfSignal = Made (counts.new_point new) refl
        made OfMembers = Made (counts.new_point new) refl

    ends_sender : (k q : ℕ) (r : Point) → get h.points q ≡ Some r → Acts (counts.end_sender h k q r)
    ends_sender k q r there = leaves_point (counts.end_sender h k q r) [] [] refl
        (tidies (record h { senders = remove h.senders k }) i q r r [] [] there (local_same r.signal.waiting i) (local_same r.members.waiting i) refl (λ f x apart is. is)) refl

    ends_holder : (k : ℕ) (x : Holder) (r : Point) → get h.points x.point ≡ Some r → Acts (counts.end_holder h k x r)
    ends_holder k x r there = leaves_point (counts.end_holder h k x r) [] (woken_by_end r x.counted) refl
        (tidies (record h { holders = remove h.holders k }) i x.point r (parted r x.counted) [] (woken_by_end r x.counted) there (local_same r.signal.waiting i) (parted_local r x.counted) refl (λ f y apart is. is)) refl

  -- ---- an event that ends nobody
  module _ (none : (f : ℕ) → ends f ≡ true → ⊥) where
    -- a future is made, and the points are these
    begins : (o : Outcome Counts) (y : Wait) (ws vs : List ℕ) → o.wakes ≡ ws ++ vs → Points i None o.hall.points ws vs → o.hall.waits ≡ insert h.waits i y → (C → IsSome (get h.points y.point)) → Acts o
    begins o y ws vs woken points waits home =
        record { k = i; comes = None; few = omega arith; signal = ws; members = vs; wakes = woken; points = points; futures = λ e. rw waits (Begun y home); touches = λ e. None_is refl; over = λ reached f is. absurd (none f is) }

    goes_over : (k : ℕ) (x : Holder) (r : Point) → get h.points x.point ≡ Some r → Acts (counts.into h i k x r)
    goes_over k x r there = begins (counts.into h i k x r) (record { point = x.point; awaits = Members }) [] (woken_by_end r x.counted) refl
        (put i x.point r (parted r x.counted) None [] (woken_by_end r x.counted) there (local_same r.signal.waiting i) (parted_local r x.counted)) refl (λ reached. is_there (get h.points x.point) r there)

    -- a poll of f
    module _ (f w : ℕ) (x : Wait) (is : polled f ≡ Some w) (enough : 1 ≤ most) (r : Point) (there : get h.points x.point ≡ Some r) where
      readies : Acts (quietly (counts.gone h f x r) answers.Ready)
      readies = record {
        k = f;
        comes = None;
        few = omega arith;
        signal = [];
        members = [];
        wakes = refl;
        points = tidies (record h { waits = remove h.waits f }) f x.point r r [] [] there (local_same r.signal.waiting f) (local_same r.members.waiting f) refl (λ g y apart is. get-removed_other h.waits f g apart ∙ is);
        futures = λ e. Ended;
        touches = λ e. Polled w is;
        over = λ reached f is. absurd (none f is);
      }

      waits_on : (a : Awaited) → Acts (quietly (record h { points = insert h.points x.point (with_count (end_of a) r (with_waker (count_at (end_of a) r) f w)) }) answers.Pending)
      waits_on (Signal b) = record {
        k = f;
        comes = Some OfSignal;
        few = enough;
        signal = [];
        members = [];
        wakes = refl;
        points = put f x.point r (record r { signal = with_waker r.signal f w }) (Some OfSignal) [] [] there (local_registering r.signal.waiting f w) (local_same r.members.waiting f);
        futures = λ e. Kept;
        touches = λ e. Polled w is;
        over = λ reached f is. absurd (none f is);
      }
      waits_on Members = record {
        k = f;
        comes = Some OfMembers;
        few = enough;
        signal = [];
        members = [];
        wakes = refl;
        points = put f x.point r (record r { members = with_waker r.members f w }) (Some OfMembers) [] [] there (local_same r.signal.waiting f) (local_registering r.members.waiting f w);
        futures = λ e. Kept;
        touches = λ e. Polled w is;
        over = λ reached f is. absurd (none f is);
      }

      polls : Acts (counts.poll h f w x r)
      polls = by_if Acts ((count_at (end_of x.awaits) r).number == 0) _ _ (λ over. readies) (λ goes_on. waits_on x.awaits)

  -- ---- an end of k
  module _ (k : ℕ) (it : (f : ℕ) → ends f ≡ (k == f)) where
    is_k : (m : Names Wait) → get m k ≡ None → (f : ℕ) → ends f ≡ true → get m f ≡ None
    is_k m none f is = ap (get m) (sym (eqb-true k f (sym (it f) ∙ is))) ∙ none

    leaves : (x : Wait) (r : Point) → get h.points x.point ≡ Some r → Acts (counts.end_wait h k x r)
    leaves x r there = record {
      k = k;
      comes = None;
      few = omega arith;
      signal = [];
      members = [];
      wakes = refl;
      points = tidies (record h { waits = remove h.waits k }) k x.point r r [] [] there (local_same r.signal.waiting k) (local_same r.members.waiting k) refl (λ g y apart is. get-removed_other h.waits k g apart ∙ is);
      futures = λ e. Ended;
      touches = λ e. Ends (it k ∙ eq-eqb k k refl);
      over = λ reached. is_k (remove h.waits k) (get-gone h.waits k);
    }

    leaves_by : Acts (end_by h k)
    leaves_by = at (get h.waits k) refl
      where
        at_point : (x : Wait) → get h.waits k ≡ Some x → (p : Option Point) → get h.points x.point ≡ p → Acts (found p h (counts.end_wait h k x))
        at_point x future None absent = still (λ reached. absurd (let some = (reached.1.waits.at k x future).1 in let none = ap is_some absent in let no = sym none ∙ some in cc))
        at_point x future (Some r) there = leaves x r there

        at : (o : Option Wait) → get h.waits k ≡ o → Acts (found o h (λ x. found (get h.points x.point) h (counts.end_wait h k x)))
        at None absent = still (λ reached. is_k h.waits absent)
        at (Some x) future = at_point x future (get h.points x.point) refl

  -- ---- the actions
  -- what is asked of whom an action polls and ends
  abbrev pub Asks : Action → Type 0
  Asks (Poll f w) = (polled f ≡ Some w) × ((f : ℕ) → ends f ≡ true → ⊥) × (1 ≤ most)
  Asks (EndWait k) = (f : ℕ) → ends f ≡ (k == f)
  Asks (EndEither k) = (f : ℕ) → ends f ≡ (k == f)
  Asks _ = (f : ℕ) → ends f ≡ true → ⊥

  nobody : ((f : ℕ) → ends f ≡ true → ⊥) → IsReached h → (f : ℕ) → ends f ≡ true → get h.waits f ≡ None
  nobody none reached f is = absurd (none f is)

  idle : ((f : ℕ) → ends f ≡ true → ⊥) → Acts (quietly h answers.Done)
  idle none = still (nobody none)

  holder_leaves : (k : ℕ) → (IsReached h → (f : ℕ) → ends f ≡ true → get h.waits f ≡ None) → Acts (leave_by h k)
  holder_leaves k over = by_found Acts (get h.holders k) h _ (still over) (λ x holder. by_found Acts (get h.points x.point) h _ (still over) (λ r there. ends_holder over k x r there))

  pub acts : (a : Action) → Asks a → Acts (act_in h i a)
  acts (Make new) none = makes (nobody none) new
  acts (Arrive k m) none = by_holder Acts h (idle none) k (λ x. counts.arrive h m x.point) (λ x r holder there. arrives (nobody none) m x.point r there)
  acts (Begin k plain) none = by_found Acts (get h.holders k) h _ (idle none) (λ x holder. begins none (counts.begin h i k plain x) (record { point = x.point; awaits = Signal (cond plain (Some k) None) }) [] [] refl (same i) refl (λ reached. (reached.1.holders.at k x holder).1))
  acts (Join k) none = by_holder Acts h (idle none) k (λ x. counts.join h i x.point x.counted) (λ x r holder there. joins (nobody none) x.point x.counted r there)
  acts (Watch k) none = by_holder Acts h (idle none) k (λ x. counts.join h i x.point false) (λ x r holder there. joins (nobody none) x.point false r there)
  acts (Into k) none = by_holder Acts h (idle none) k (counts.into h i k) (λ x r holder there. goes_over none k x r there)
  acts (EndHolder k) none = holder_leaves k (nobody none)
  acts (Copy f) none = by_found Acts (get h.waits f) h _ (idle none) (λ x future. begins none (counts.copy h i x) (record { point = x.point; awaits = Members }) [] [] refl (same i) refl (λ reached. (reached.1.waits.at f x future).1))
  acts (Poll f w) asks = by_found Acts (get h.waits f) h _ (idle asks.1) (λ x future. by_found Acts (get h.points x.point) h _ (idle asks.1) (λ r there. polls asks.1 f w x asks.0 asks.2 r there))
  acts (EndWait k) it = leaves_by k it
  acts (EndEither k) it = by_if Acts (is_holder h k) _ _ (λ holder. holder_leaves k (λ reached. is_k k it h.waits (reached.1.apart k holder))) (λ future. leaves_by k it)
  acts (CopySender k) none = by_found Acts (get h.senders k) h _ (idle none) (λ o sender. rests (nobody none) (counts.copy_sender h i o) refl refl refl)
  acts (Send k) none = by_found Acts (get h.senders k) h _ (idle none) (λ o sender. by_found Acts (get h.points o) h _ (idle none) (λ r there. arrives (nobody none) 1 o r there))
  acts (Await k) none = by_found Acts (get h.senders k) h _ (idle none) (λ o sender. begins none (counts.await h i k o) (record { point = o; awaits = Members }) [] [] refl (same i) refl (λ reached. (reached.1.senders.at k o sender).1))
  acts (EndSender k) none = by_found Acts (get h.senders k) h _ (idle none) (λ o sender. by_found Acts (get h.points o) h _ (idle none) (λ r there. ends_sender (nobody none) k o r there))
  acts _ none = by_holder Acts h (idle none) _ _ (λ x r holder there. rests (nobody none) _ refl refl refl)

-- whom the actions poll and end
pub asks : (h : Counts) (i : ℕ) (a : Action) → Asks h (polled_in a) (ends_in a) i (cond (registers_in a) 1 0) a
asks h i (Poll f w) = (ap (λ b. cond b (Some w) None) (eq-eqb f f refl), λ f is. absurd (cc), omega arith)
asks h i (EndWait k) = λ f. refl
asks h i (EndEither k) = λ f. refl
asks h i _ = λ f is. absurd (cc)

-- where the hall was reached, it is known at each end
pub goes : (h : Counts) (polled : ℕ → Option ℕ) (ends : ℕ → Bool) (i most : ℕ) (o : Outcome Counts) → IsReached h → (a : Acts h polled ends i most o) → (e : End)
    → Goes (queue_at e) of_wait h.points h.waits (IsReached h) polled ends i (coming e a.comes) o.hall.points o.hall.waits (at_end e a.signal a.members)
goes h polled ends i most o reached a e = record { k = a.k; touches = a.touches e; objects = a.points e; futures = a.futures e; over = a.over reached }

-- ---- how many are registered
counted_at : (h : Counts) (C : Type 0) (i k extra : ℕ) (e : End) (ps : Names Point) (ws : List ℕ) → ObjectsGo (queue_at e) of_wait h.points h.waits C i k extra ps ws → Counted (queue_at e) h.points ps ws extra
counted_at h C i k extra e _ _ Same = counted_same (queue_at e) h.points extra
counted_at h C i k extra e _ _ (Put o r p ws more there local few) = counted_put (queue_at e) h.points o r p ws k more extra there local few
counted_at h C i k extra e _ _ (Made p none) = counted_made (queue_at e) h.points i p extra none
counted_at h C i k extra e _ _ (Gone o r ws there few none) = counted_gone (queue_at e) h.points o r ws extra there few

pub record Settles (h : Counts) (o : Outcome Counts) (extra : ℕ) : Type 0 where
  pub most : length o.wakes ≤ registered h
  pub grows : registered o.hall + length o.wakes ≤ registered h + extra

settled : (h : Counts) (polled : ℕ → Option ℕ) (ends : ℕ → Bool) (i most : ℕ) (o : Outcome Counts) (a : Acts h polled ends i most o) → Settles h o most
settled h polled ends i most o a =
    let first = counted_at h (IsReached h) i a.k (coming OfSignal a.comes) OfSignal o.hall.points a.signal (a.points OfSignal) in
    let second = counted_at h (IsReached h) i a.k (coming OfMembers a.comes) OfMembers o.hall.points a.members (a.points OfMembers) in
    let before = total-plus (λ o (r : Point). length r.signal.waiting) (λ o (r : Point). length r.members.waiting) h.points in
    let after = total-plus (λ o (r : Point). length r.signal.waiting) (λ o (r : Point). length r.members.waiting) o.hall.points in
    let woken : length o.wakes ≡ length a.signal + length a.members = ap (λ ws. length ws) a.wakes ∙ length-append a.signal a.members in
    record { most = omega (arith, first.most, second.most, before, woken); grows = let few = a.few in omega (arith, first.grows, second.grows, before, after, woken, few) }

-- none but a poll registers a waker, and that one
pub settles : (h : Counts) (i : ℕ) (a : Action) → Settles h (act_in h i a) (cond (registers_in a) 1 0)
settles h i a = settled h (polled_in a) (ends_in a) i (cond (registers_in a) 1 0) (act_in h i a) (acts h (polled_in a) (ends_in a) i (cond (registers_in a) 1 0) a (asks h i a))

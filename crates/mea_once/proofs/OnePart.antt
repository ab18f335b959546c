-- a part, whatever its objects are: what is looked up there, and what an event on one of them changes
use Rattle.std.proofs.Common.{◌≡◌, ℕ, ◌+◌, ◌<◌, ◌≤◌, ◌^◌, ◌++◌, Bool, true, false, List, [], nat_lt, Option, Some, None, option_map, is_some, refl, ap, sym, subst, ◌∙◌, arith, if◌then◌else◌}
use Rattle.std.specs.Option.{IsSome}
use Rattle.std.specs.FinMap.{get, insert, remove, len, empty, len-empty}
use Rattle.std.specs.Ordering.{nat_cmp}
use Rattle.mea_base.specs.Ready.{Waking}
use Rattle.mea_base.specs.Totals.{total, weight}
use Rattle.mea_base.proofs.Maps.{by_put, total-has, nothing_at, inside, removed_there}
use Rattle.mea_base.proofs.Totals.{total-insert, total-remove}
use Rattle.mea_base.proofs.NamedMaps.{is_some-map, get-seen}
use Rattle.mea_family.specs.Causes.{unknown_unless, borrowed_by}
use Rattle.mea_family.specs.declared.answer.Answer.{Answer}
use Rattle.mea_family.specs.declared.answer.Answer.TheVariants as answers
use Rattle.mea_family.specs.declared.stop.Stop.{Stop}
use Rattle.mea_family.specs.declared.stop.Stop.TheVariants as stops
use Rattle.mea_family.specs.Family.{Outcome, quietly}
use Rattle.mea_family.specs.Play.{Part, PartYields, PartRests, found}
use Rattle.mea_by_name.specs.ByName.{Names, seen, own}
use Rattle.mea_by_name.proofs.Cases.{found_is}
use Rattle.mea_by_name.proofs.Halls as halls
use Rattle.mea_by_name.proofs.Own.{seen-at, seen-empty, seen-insert, seen-remove, seen-alike, own-seen, len-seen, own-put, own-gone, own-empty, insert_same, put_gone, gone_none, Moves, Stays, Comes, Goes}
use Rattle.mea_once_model.specs.Cells.{turned_to}
use Rattle.mea_once.specs.Entries.{left_by}
use Rattle.mea_once.specs.PartForm.{PartForm, IsOf, of_none, ArePartKept}

-- refused where something borrows it
abbrev pub if_borrowed : Bool → Option Stop
if_borrowed b = if b then Some stops.Borrowed else None

-- refused, by what is kept under a name, of which so much is in the way
abbrev pub borrowed_at : {E : Type 0} → (E → ℕ) → Option E → Option Stop
borrowed_at n None = Some stops.Unknown
borrowed_at n (Some e) = if_borrowed (nat_lt 0 (n e))

module _ (K : PartForm) where
  abbrev pub part_of : Names K.Object → Names K.Future → ℕ → Part K.Hall
  part_of es fs next = record { hall = K.hall (seen K.object_seen es) (seen K.future_seen fs); next = next }

  abbrev pub kept_in : Names K.Object → ℕ
  kept_in es = total (λ o e. K.keeps e) es

  -- names stay below a greater number, and as many wakers are registered as are kept
  pub record PartLaws : Type 0 where
    pub later : (e : K.Object) (n m : ℕ) → K.Low e n → n ≤ m → K.Low e m
    pub counted : (es : Names K.Object) (fs : Names K.Future) (next : ℕ) → ArePartKept K es fs next → K.registered (K.hall (seen K.object_seen es) (seen K.future_seen fs)) ≡ kept_in es

  -- ---- nothing
  pub new_kept : ArePartKept K empty empty 0
  new_kept = record {
    hall = record {
      each = λ o e there. absurd (nothing_at K.Object o e there);
      below = λ o e there. absurd (nothing_at K.Object o e there);
      firsts = record { at = λ k x there. absurd (nothing_at K.Future k x there) };
      seconds = record { at = λ k x there. absurd (nothing_at ℕ k x there) };
      low = omega arith;
    };
    low = λ o e there. absurd (nothing_at K.Object o e there);
  }

  pub new_view : ◌≡◌ {A = Part K.Hall} (part_of empty empty 0) (record { hall = K.hall empty empty; next = 0 })
  new_view = λ i. record { hall = K.hall (seen-empty K.object_seen i) (seen-empty K.future_seen i); next = 0 }

  -- ---- what is looked up in a part that is seen so
  module _ {old : Part K.Hall} (es : Names K.Object) (fs : Names K.Future) (next : ℕ) (view : ◌≡◌ {A = Part K.Hall} (part_of es fs next) old) where
    future_at : (f : ℕ) (p : Option K.Future) → get fs f ≡ p → option_map K.future_seen p ≡ get (K.futures old.hall) f
    future_at f p is = ap (option_map K.future_seen) (sym is) ∙ sym (get-seen (λ k x. K.future_seen x) fs f) ∙ ap (λ (m : Names K.SeenFuture). get m f) (sym (K.futures_are (seen K.object_seen es) (seen K.future_seen fs)))
        ∙ ap (λ (p : Part K.Hall). get (K.futures p.hall) f) view

    object_at : (o : ℕ) (p : Option K.Object) → get es o ≡ p → option_map K.object_seen p ≡ get (K.objects old.hall) o
    object_at o p is = ap (option_map K.object_seen) (sym is) ∙ sym (get-seen (λ k x. K.object_seen x) es o) ∙ ap (λ (m : Names K.SeenObject). get m o) (sym (K.objects_are (seen K.object_seen es) (seen K.future_seen fs)))
        ∙ ap (λ (p : Part K.Hall). get (K.objects p.hall) o) view

    pub future_of : (f : ℕ) → is_some (get fs f) ≡ is_some (get (K.futures old.hall) f)
    future_of f = sym (is_some-map K.future_seen (get fs f)) ∙ ap is_some (future_at f (get fs f) refl)

    pub unsettled_of : (f : ℕ) (p : Option K.Future) → get fs f ≡ p → K.settles (option_map K.future_seen p) ≡ K.settles (get (K.futures old.hall) f)
    unsettled_of f p is = ap K.settles (future_at f p is)

    pub object_of : (o : ℕ) (p : Option K.Object) → get es o ≡ p → is_some p ≡ is_some (get (K.objects old.hall) o)
    object_of o p is = sym (is_some-map K.object_seen p) ∙ ap is_some (object_at o p is)

    -- why a future is not polled or ended, why it is not settled, and why an object is not used
    pub future_cause : (f : ℕ) (p : Option K.Future) → get fs f ≡ p → unknown_unless (is_some (get (K.futures old.hall) f)) ≡ unknown_unless (is_some p)
    future_cause f p is = ap unknown_unless (sym (future_of f) ∙ ap is_some is)

    pub settle_cause : (f : ℕ) (p : Option K.Future) → get fs f ≡ p → unknown_unless (K.settles (get (K.futures old.hall) f)) ≡ unknown_unless (K.settles (option_map K.future_seen p))
    settle_cause f p is = ap unknown_unless (sym (unsettled_of f p is))

    pub object_cause : (o : ℕ) (p : Option K.Object) → get es o ≡ p → unknown_unless (is_some (get (K.objects old.hall) o)) ≡ unknown_unless (is_some p)
    object_cause o p is = ap unknown_unless (sym (object_of o p is))

    module _ (kept : ArePartKept K es fs next) (o : ℕ) where
      pub own_are : own K.seen_of o (K.futures old.hall) ≡ seen K.future_seen (own K.of o fs)
      own_are = ap (λ (p : Part K.Hall). own K.seen_of o (K.futures p.hall)) (sym view) ∙ ap (own K.seen_of o) (K.futures_are (seen K.object_seen es) (seen K.future_seen fs)) ∙ own-seen K.of K.seen_of K.future_seen K.of_is o fs

      pub sizes_are : (e : K.Object) → get es o ≡ Some e → len (own K.seen_of o (K.futures old.hall)) ≡ K.size e
      sizes_are e there = ap (λ m. len m) own_are ∙ len-seen K.future_seen (own K.of o fs) ∙ sym (K.size_is e (own K.of o fs) (kept.hall.each o e there))

      -- why it is not used where so much is in the way, and where no future may be
      pub borrowed_is : (m : ℕ) (n : K.Object → ℕ) → ((e : K.Object) → get es o ≡ Some e → m ≡ n e) → (p : Option K.Object) → get es o ≡ p → borrowed_by (is_some (get (K.objects old.hall) o)) m ≡ borrowed_at n p
      borrowed_is m n so None is = ap (λ k. borrowed_by k m) (sym (object_of o None is))
      borrowed_is m n so (Some e) is = ap (λ k. borrowed_by k m) (sym (object_of o (Some e) is)) ∙ ap (borrowed_by true) (so e is)

      pub whole_cause : (p : Option K.Object) → get es o ≡ p → borrowed_by (is_some (get (K.objects old.hall) o)) (len (own K.seen_of o (K.futures old.hall))) ≡ borrowed_at K.size p
      whole_cause = borrowed_is (len (own K.seen_of o (K.futures old.hall))) K.size sizes_are

-- ---- a part before event number i
pub record Site (K : PartForm) (old : Part K.Hall) (i : ℕ) : Type 0 where
  pub laws : PartLaws K
  pub es : Names K.Object
  pub fs : Names K.Future
  pub next : ℕ
  pub view : ◌≡◌ {A = Part K.Hall} (part_of K es fs next) old
  pub kept : ArePartKept K es fs next
  pub later : next ≤ i
  pub fits : i < 2 ^ 64

module _ {K : PartForm} {old : Part K.Hall} {i : ℕ} (s : Site K old i) where
  abbrev pub seen_all : K.Hall
  seen_all = K.hall (seen K.object_seen s.es) (seen K.future_seen s.fs)

  abbrev Good : K.Object → Names K.Future → Names ℕ → Type 0
  Good e xs ys = K.Good e xs

  -- it keeps to what it has to, and what was done is the model's outcome; or the same, and no waker was made ready
  abbrev pub Yields : (K.Hall → Outcome K.Hall) → Answer → Names K.Object → Names K.Future → Waking ℕ → Waking ℕ → Type 0
  Yields out answer es fs before after = ArePartKept K es fs (i + 1) × PartYields K.registered old i (out old.hall) answer (part_of K es fs (i + 1)) before after

  abbrev pub Rests : (K.Hall → Outcome K.Hall) → Answer → Names K.Object → Names K.Future → Type 0
  Rests out answer es fs = ArePartKept K es fs (i + 1) × PartRests K.registered old i (out old.hall) answer (part_of K es fs (i + 1))

  -- what is said of the part as it is kept is said of it as it is seen
  module _ (out : K.Hall → Outcome K.Hall) (o : Outcome K.Hall) (answer : Answer) (es : Names K.Object) (fs : Names K.Future) (kept : ArePartKept K es fs (i + 1)) (is : out seen_all ≡ o) (replied : answer ≡ o.reply)
      (hall : K.hall (seen K.object_seen es) (seen K.future_seen fs) ≡ o.hall) where
    now : K.registered o.hall ≡ kept_in K es
    now = ap K.registered (sym hall) ∙ s.laws.counted es fs (i + 1) kept

    was : K.registered seen_all ≡ kept_in K s.es
    was = s.laws.counted s.es s.fs s.next s.kept

    pub yields_as : (before after : Waking ℕ) → after.wakers ≡ before.wakers ++ o.wakes → after.registered + kept_in K s.es ≡ before.registered + kept_in K es → Yields out answer es fs before after
    yields_as before after woken counted = (
      kept,
      subst (λ (p : Part K.Hall). PartYields K.registered p i (out p.hall) answer (part_of K es fs (i + 1)) before after) s.view
          (rw is (record { replied = replied; moved = λ j. record { hall = hall j; next = i + 1 }; woken = woken; counted = omega (arith, counted, now, was) })),
    )

    pub rests_as : o.wakes ≡ [] → kept_in K es ≡ kept_in K s.es → Rests out answer es fs
    rests_as silent counted = (
      kept,
      subst (λ (p : Part K.Hall). PartRests K.registered p i (out p.hall) answer (part_of K es fs (i + 1))) s.view
          (rw is (record { replied = replied; moved = λ j. record { hall = hall j; next = i + 1 }; silent = silent; counted = now ∙ counted ∙ sym was })),
    )

  -- ---- what is there
  pub object_there : (o : ℕ) → is_some (get (K.objects old.hall) o) ≡ true → IsSome (get s.es o)
  object_there o is = object_of K s.es s.fs s.next s.view o (get s.es o) refl ∙ is

  low_old : (q : ℕ) (d : K.Object) → get s.es q ≡ Some d → K.Low d (i + 1)
  low_old q d there = s.laws.later d s.next (i + 1) (s.kept.low q d there) (let later = s.later in omega arith)

  low_after : (o : ℕ) (e' : K.Object) → K.Low e' (i + 1) → (q : ℕ) (d : K.Object) → get (insert s.es o e') q ≡ Some d → K.Low d (i + 1)
  low_after o e' low q d there = by_put s.es o e' (λ q p. p ≡ Some d → K.Low d (i + 1)) (λ it. subst (λ (e : K.Object). K.Low e (i + 1)) (inside it) low) (λ q apart it. low_old q d it) q there

  pub rests : ArePartKept K s.es s.fs (i + 1)
  rests = record { hall = halls.rests K.of of_none Good K.size s.es s.fs empty s.next i s.kept.hall s.later s.fits; low = low_old }

  -- a look at a future changes nothing, nor does taking one that is not there
  pub looked_at : (f : ℕ) (x : K.Future) → get s.fs f ≡ Some x → ArePartKept K s.es (insert s.fs f x) s.next × (part_of K s.es (insert s.fs f x) s.next ≡ old)
  looked_at f x there = rw (insert_same s.fs f x there) (s.kept, s.view)

  pub untaken : (f : ℕ) → get s.fs f ≡ None → ArePartKept K s.es (remove s.fs f) s.next × (part_of K s.es (remove s.fs f) s.next ≡ old)
  untaken f none = rw (gone_none s.fs f none) (s.kept, s.view)

  -- a future's object is there
  pub its_object : (f : ℕ) (x : K.Future) → get s.fs f ≡ Some x → IsSome (get s.es (K.of x))
  its_object f x there = (s.kept.hall.firsts.at f x there).1

  -- ---- an object is made, that has no future
  pub makes : (e : K.Object) → K.Good e empty → K.size e ≡ 0 → K.Low e (i + 1) → K.keeps e ≡ 0 → (z : K.SeenObject) → K.object_seen e ≡ z
      → (out : K.Hall → Outcome K.Hall) → out seen_all ≡ quietly (K.hall (insert (seen K.object_seen s.es) i z) (seen K.future_seen s.fs)) answers.Made → Rests out answers.Made (insert s.es i e) s.fs
  makes e good none low quiet z is out outcome =
      let absent = halls.no_object K.of of_none Good K.size s.es s.fs empty s.next i s.kept.hall s.later s.fits in
      let nothing : weight (λ o e. K.keeps e) i (get s.es i) ≡ 0 = ap (weight (λ o e. K.keeps e) i) absent in
      rests_as out _ answers.Made (insert s.es i e) s.fs (record { hall = halls.makes K.of of_none Good K.size s.es s.fs empty s.next i s.kept.hall s.later s.fits e good none; low = low_after i e low }) outcome refl
      (ap (λ os. K.hall os (seen K.future_seen s.fs)) (seen-insert K.object_seen s.es i e ∙ ap (insert (seen K.object_seen s.es) i) is)) refl (omega (arith, nothing, quiet, total-insert (λ o e. K.keeps e) s.es i e))

  pub no_future : get s.fs i ≡ None
  no_future = halls.no_first K.of of_none Good K.size s.es s.fs empty s.next i s.kept.hall s.later s.fits

  -- ---- an object that is there
  module _ (o : ℕ) (e : K.Object) (there : get s.es o ≡ Some e) where
    pub its_kept : K.Good e (own K.of o s.fs)
    its_kept = s.kept.hall.each o e there

    pub its_room : (before : Waking ℕ) → K.registered old.hall ≤ before.registered → K.keeps e ≤ before.registered
    its_room before room =
        let all : K.registered old.hall ≡ kept_in K s.es = ap (λ (p : Part K.Hall). K.registered p.hall) (sym s.view) ∙ s.laws.counted s.es s.fs s.next s.kept in
        omega (arith, room, all, total-has (λ o e. K.keeps e) s.es o e there)

    pub few_futures : K.size e + 1 < 2 ^ 128
    few_futures = let low = s.kept.hall.below o e there in let all = s.kept.hall.low in omega (arith, low.1)

    pub found_object : (act : K.SeenObject → Outcome K.Hall) → found (get (seen K.object_seen s.es) o) seen_all act ≡ act (K.object_seen e)
    found_object act = found_is _ seen_all act (K.object_seen e) (seen-at K.object_seen s.es o e there)

    kept_now : (e' : K.Object) → kept_in K (insert s.es o e') + K.keeps e ≡ kept_in K s.es + K.keeps e'
    kept_now e' = let here : weight (λ o e. K.keeps e) o (get s.es o) ≡ K.keeps e = ap (weight (λ o e. K.keeps e) o) there in omega (arith, here, total-insert (λ o e. K.keeps e) s.es o e')

    turns : (e' : K.Object) (fs : Names K.Future) → Moves K.of o i s.fs fs → K.Good e' (own K.of o fs) → K.size e' ≤ K.size e + 1 → K.Low e' (i + 1) → ArePartKept K (insert s.es o e') fs (i + 1)
    turns e' fs firsts good few low = record { hall = halls.turns K.of of_none Good K.size s.es s.fs empty s.next i s.kept.hall s.later s.fits o e e' fs empty there firsts Stays good few; low = low_after o e' low }

    -- a look alone changes nothing
    pub unchanged : ArePartKept K (insert s.es o e) s.fs s.next × (part_of K (insert s.es o e) s.fs s.next ≡ old)
    unchanged = rw (insert_same s.es o e there) (s.kept, s.view)

    pub tells : (out : K.Hall → Outcome K.Hall) (answer : Answer) → out seen_all ≡ quietly seen_all answer → PartRests K.registered old i (out old.hall) answer (part_of K s.es s.fs (i + 1))
    tells out answer is = (rests_as out _ answer s.es s.fs rests is refl refl refl refl).1

    -- it changes, but has as many futures and keeps as many wakers
    pub changes : (e' : K.Object) → K.Good e' (own K.of o s.fs) → K.size e' ≡ K.size e → K.Low e' (i + 1) → K.keeps e' ≡ K.keeps e → (z : K.SeenObject) → K.object_seen e' ≡ z
        → (out : K.Hall → Outcome K.Hall) (answer : Answer) → out seen_all ≡ quietly (K.hall (insert (seen K.object_seen s.es) o z) (seen K.future_seen s.fs)) answer → Rests out answer (insert s.es o e') s.fs
    changes e' good size low same z is out answer outcome = rests_as out _ answer (insert s.es o e') s.fs (turns e' s.fs Stays good (omega (arith, size)) low) outcome refl
        (ap (λ os. K.hall os (seen K.future_seen s.fs)) (seen-insert K.object_seen s.es o e' ∙ ap (insert (seen K.object_seen s.es) o) is)) refl (let now = kept_now e' in omega (arith, now, same))

    -- it is gone
    pub goes_kept : K.size e ≡ 0 → ArePartKept K (remove s.es o) s.fs (i + 1)
    goes_kept nothing = record {
      hall = halls.goes_out K.of of_none Good K.size s.es s.fs empty s.next i s.kept.hall s.later s.fits o e s.fs empty there Stays Stays (let all = K.size_is e (own K.of o s.fs) its_kept in omega (arith, nothing, all)) nobody_else;
      low = λ q d is. low_old q d (removed_there s.es o q d is);
    }
      where
        nobody_else : len (own of_none o (empty {X = ℕ} {R = nat_cmp})) ≡ 0
        nobody_else = ap (λ m. len m) (own-empty of_none o (empty {X = ℕ} {R = nat_cmp}) (λ k x is mine. nothing_at ℕ k x is)) ∙ len-empty nat_cmp ℕ

    pub hall_without : K.hall (seen K.object_seen (remove s.es o)) (seen K.future_seen s.fs) ≡ K.hall (remove (seen K.object_seen s.es) o) (seen K.future_seen s.fs)
    hall_without = ap (λ os. K.hall os (seen K.future_seen s.fs)) (seen-remove K.object_seen s.es o)

    pub kept_without : kept_in K (remove s.es o) + K.keeps e ≡ kept_in K s.es
    kept_without = let here : weight (λ o e. K.keeps e) o (get s.es o) ≡ K.keeps e = ap (weight (λ o e. K.keeps e) o) there in omega (arith, here, total-remove (λ o e. K.keeps e) s.es o)

    -- a future of it is made
    pub gets_future : (x : K.Future) (e' : K.Object) → K.of x ≡ o → K.Good e' (insert (own K.of o s.fs) i x) → K.size e' ≤ K.size e + 1 → K.Low e' (i + 1) → K.keeps e' ≡ K.keeps e → K.object_seen e' ≡ K.object_seen e → (z : K.SeenFuture) → K.future_seen x ≡ z
        → (out : K.Hall → Outcome K.Hall) → out seen_all ≡ quietly (K.hall (seen K.object_seen s.es) (insert (seen K.future_seen s.fs) i z)) answers.Made → Rests out answers.Made (insert s.es o e') (insert s.fs i x)
    gets_future x e' mine good few low same alike z is out outcome = rests_as out _ answers.Made (insert s.es o e') (insert s.fs i x)
        (turns e' (insert s.fs i x) (Comes i x (omega arith) mine (λ y had. absurd (let none = no_future in cc))) (rw (own-put K.of o s.fs i x mine) good) few low) outcome refl
        (λ j. K.hall (seen-alike K.object_seen s.es o e e' there alike j) ((seen-insert K.future_seen s.fs i x ∙ ap (insert (seen K.future_seen s.fs) i) is) j)) refl (let now = kept_now e' in omega (arith, now, same))

  -- what is left of the futures where one that was polled may be gone
  pub left_turned : (f : ℕ) (b : Bool) (y : K.Future) → (if b then remove (insert s.fs f y) f else insert s.fs f y) ≡ turned_to s.fs f (left_by b y)
  left_turned f true y = put_gone s.fs f y
  left_turned f false y = refl

  -- ---- a future of an object makes a step
  module _ (f : ℕ) (x : K.Future) (e : K.Object) (future : get s.fs f ≡ Some x) (there : get s.es (K.of x) ≡ Some e) where
    moves : (p : Option K.Future) → IsOf K.of p (K.of x) → Moves K.of (K.of x) i s.fs (turned_to s.fs f p)
    moves None mine = Goes f (λ y is. ap K.of (inside (sym is ∙ future)))
    moves (Some y) mine = Comes f y (let low = (s.kept.hall.firsts.at f x future).0 in let later = s.later in omega arith) mine (λ y is. ap K.of (inside (sym is ∙ future)))

    own_turned : (p : Option K.Future) → IsOf K.of p (K.of x) → own K.of (K.of x) (turned_to s.fs f p) ≡ turned_to (own K.of (K.of x) s.fs) f p
    own_turned None mine = own-gone K.of (K.of x) s.fs f
    own_turned (Some y) mine = own-put K.of (K.of x) s.fs f y mine

    seen_turned : (p : Option K.Future) → seen K.future_seen (turned_to s.fs f p) ≡ turned_to (seen K.future_seen s.fs) f (option_map K.future_seen p)
    seen_turned None = seen-remove K.future_seen s.fs f
    seen_turned (Some y) = seen-insert K.future_seen s.fs f y

    pub steps : (p : Option K.Future) (e' : K.Object) → IsOf K.of p (K.of x) → K.Good e' (turned_to (own K.of (K.of x) s.fs) f p) → K.size e' ≤ K.size e + 1 → K.Low e' (i + 1)
        → (z : K.SeenObject) (q : Option K.SeenFuture) (reply : Answer) (ws : List ℕ) (answer : Answer) (before after : Waking ℕ) → answer ≡ reply → K.object_seen e' ≡ z → option_map K.future_seen p ≡ q → after.wakers ≡ before.wakers ++ ws → after.registered + K.keeps e ≡ before.registered + K.keeps e'
        → (out : K.Hall → Outcome K.Hall) → out seen_all ≡ record { hall = K.hall (insert (seen K.object_seen s.es) (K.of x) z) (turned_to (seen K.future_seen s.fs) f q); reply = reply; wakes = ws } → Yields out answer (insert s.es (K.of x) e') (turned_to s.fs f p) before after
    steps p e' mine good few low z q reply ws answer before after replied object left woken counted out is = yields_as out _ answer (insert s.es (K.of x) e') (turned_to s.fs f p) (turns (K.of x) e there e' (turned_to s.fs f p) (moves p mine) (rw (own_turned p mine) good) few low) is replied
        (λ j. K.hall ((seen-insert K.object_seen s.es (K.of x) e' ∙ ap (insert (seen K.object_seen s.es) (K.of x)) object) j) ((seen_turned p ∙ ap (turned_to (seen K.future_seen s.fs) f) left) j)) before after woken
        (let now = kept_now (K.of x) e there e' in omega (arith, counted, now))

    pub found_future : (act : K.SeenFuture → Outcome K.Hall) → found (get (seen K.future_seen s.fs) f) seen_all act ≡ act (K.future_seen x)
    found_future act = found_is _ seen_all act (K.future_seen x) (seen-at K.future_seen s.fs f x future)

    -- it is found with its object
    pub found_both : (act : K.SeenFuture → K.SeenObject → Outcome K.Hall) → found (get (seen K.future_seen s.fs) f) seen_all (λ y. found (get (seen K.object_seen s.es) (K.seen_of y)) seen_all (act y)) ≡ act (K.future_seen x) (K.object_seen e)
    found_both act = found_future (λ y. found (get (seen K.object_seen s.es) (K.seen_of y)) seen_all (act y)) ∙ ap (λ q. found (get (seen K.object_seen s.es) q) seen_all (act (K.future_seen x))) (K.of_is x) ∙ found_object (K.of x) e there (act (K.future_seen x))

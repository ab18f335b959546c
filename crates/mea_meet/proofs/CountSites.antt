-- what each event does to points that count, as they are kept and as they are seen
use Rattle.std.proofs.Common.{◌≡◌, ℕ, ◌+◌, ◌<◌, ◌≤◌, ◌^◌, ◌==◌, ◌++◌, Bool, true, false, [], Option, Some, None, IsSome, is_some, if◌then◌else◌, refl, ap, sym, subst, ◌∙◌, arith}
use Rattle.std.specs.Option.{option_map}
use Rattle.std.specs.FinMap.{get, insert, remove, empty, len}
use Rattle.mea_base.specs.Ready.{Waking}
use Rattle.mea_base.specs.Totals.{weight}
use Rattle.mea_base.proofs.Totals.{total-insert, total-remove}
use Rattle.mea_base.proofs.Maps.{by_put, by_gone, total-has, nothing_at, inside, get-there, is_there}
use Rattle.mea_base.proofs.NamedMaps.{is_some-map, get-seen}
use Rattle.mea_family.specs.Family.{Outcome}
use Rattle.mea_family.specs.Play.{Part, PartYields, PartRests, found}
use Rattle.mea_family.specs.declared.answer.Answer.{Answer}
use Rattle.mea_by_name.specs.ByName.{Names, seen, own}
use Rattle.mea_by_name.proofs.Cases.{found_is, if_true, if_false}
use Rattle.mea_by_name.proofs.Own.{Moves, moves_elsewhere, seen-at, seen-empty, seen-insert, seen-remove, own-empty, put_gone, own-seen, len-seen, seen-none_back, seen-some_back}
use Rattle.mea_meet_model.specs.Counts as model
use Rattle.mea_meet_model.specs.Counts.{Counts, Point, no_counts, is_holder, is_sender, is_wait, registered, things_of, tidied}
use Rattle.mea_meet_model.specs.CountActions.{Action, act_in, cause_in}
use Rattle.mea_meet_model.specs.Valid.{HasCounts}
use Rattle.mea_meet_model.proofs.CountsKept.{counts_empty, no_point, no_holder, no_wait, no_sender}
use Rattle.mea_meet_model.proofs.CountEvents.{MayAct, keeps}
use Rattle.mea_meet.specs.declared.holder_entry.HolderEntry.{HolderEntry}
use Rattle.mea_meet.specs.declared.wait_entry.WaitEntry.{WaitEntry}
use Rattle.mea_meet.specs.CountCores.{kept_by}
use Rattle.mea_meet.specs.CountEntries.{KeptPoint}
use Rattle.mea_meet.specs.CountParts.{point_seen, holder_seen, wait_seen, counts_seen, of_holder, of_wait, AreKept, AreKeptCounts}
use Rattle.mea_meet.proofs.CountSeeing.{kept_in, registered_is}
use Rattle.mea_meet.proofs.OneCount.{lasts}

-- ---- nothing
pub new_kept : AreKeptCounts empty empty empty empty 0
new_kept = record { valid = rw (seen-empty point_seen, seen-empty holder_seen, seen-empty wait_seen) counts_empty; each = λ o e is. absurd (nothing_at KeptPoint o e is) }

pub new_view : ◌≡◌ {A = Part Counts} (record { hall = counts_seen empty empty empty empty; next = 0 }) (record { hall = no_counts; next = 0 })
new_view = rw (seen-empty point_seen, seen-empty holder_seen, seen-empty wait_seen) refl

-- ---- what is seen at a name
module _ (ps : Names KeptPoint) (ss : Names ℕ) (hs : Names HolderEntry) (ws : Names WaitEntry) (next : ℕ) {old : Part Counts} (view : ◌≡◌ {A = Part Counts} (record { hall = counts_seen ps ss hs ws; next = next }) old) where
  pub holder_is : (k : ℕ) (p : Option HolderEntry) → get hs k ≡ p → option_map holder_seen p ≡ get old.hall.holders k
  holder_is k p is = ap (option_map holder_seen) (sym is) ∙ sym (get-seen (λ k x. holder_seen x) hs k) ∙ ap (λ (p : Part Counts). get p.hall.holders k) view

  pub is_holder_is : (k : ℕ) → is_some (get hs k) ≡ is_holder old.hall k
  is_holder_is k = sym (is_some-map holder_seen (get hs k)) ∙ ap is_some (holder_is k (get hs k) refl)

  pub is_wait_is : (f : ℕ) → is_some (get ws f) ≡ is_wait old.hall f
  is_wait_is f = sym (is_some-map wait_seen (get ws f)) ∙ ap is_some (sym (get-seen (λ k y. wait_seen y) ws f)) ∙ ap (λ (p : Part Counts). is_wait p.hall f) view

  pub is_sender_is : (k : ℕ) → is_some (get ss k) ≡ is_sender old.hall k
  is_sender_is k = ap (λ (p : Part Counts). is_sender p.hall k) view

  pub point_is : (o : ℕ) (p : Option KeptPoint) → get ps o ≡ p → option_map point_seen p ≡ get old.hall.points o
  point_is o p is = ap (option_map point_seen) (sym is) ∙ sym (get-seen (λ k e. point_seen e) ps o) ∙ ap (λ (p : Part Counts). get p.hall.points o) view

-- what the points keep to, each with what is of it
pub record Each (ps : Names KeptPoint) (ss : Names ℕ) (hs : Names HolderEntry) (ws : Names WaitEntry) (n : ℕ) : Type 0 where
  pub at : (o : ℕ) (e : KeptPoint) → get ps o ≡ Some e → AreKept e (own of_wait o ws) (own of_holder o hs) (own model.of_itself o ss) n

-- ---- the points before event number i
pub record Site (old : Part Counts) (i : ℕ) : Type 0 where
  pub ps : Names KeptPoint
  pub ss : Names ℕ
  pub hs : Names HolderEntry
  pub ws : Names WaitEntry
  pub next : ℕ
  pub view : ◌≡◌ {A = Part Counts} (record { hall = counts_seen ps ss hs ws; next = next }) old
  pub kept : AreKeptCounts ps ss hs ws next
  pub later : next ≤ i

abbrev pub site : {old : Part Counts} {i : ℕ} (ps : Names KeptPoint) (ss : Names ℕ) (hs : Names HolderEntry) (ws : Names WaitEntry) (next : ℕ) → ◌≡◌ {A = Part Counts} (record { hall = counts_seen ps ss hs ws; next = next }) old → AreKeptCounts ps ss hs ws next → old.next ≤ i → Site old i
site ps ss hs ws next view kept later = record { ps = ps; ss = ss; hs = hs; ws = ws; next = next; view = view; kept = kept; later = rw (← view) at later }

abbrev pub part_of : Names KeptPoint → Names ℕ → Names HolderEntry → Names WaitEntry → ℕ → Part Counts
part_of ps ss hs ws next = record { hall = counts_seen ps ss hs ws; next = next }

module _ {old : Part Counts} {i : ℕ} (s : Site old i) where
  abbrev pub here : Counts
  here = counts_seen s.ps s.ss s.hs s.ws

  -- what is said of them as they are seen
  pub in_view : (P : Counts → Type 0) → P old.hall → P (counts_seen s.ps s.ss s.hs s.ws)
  in_view P is = subst (λ (p : Part Counts). P p.hall) (sym s.view) is

  -- ---- the new maps stand for what the event leaves
  module _ (F : Counts → Outcome Counts) (out : Outcome Counts) (is : F here ≡ out) (valid : HasCounts out.hall (i + 1)) (answer : Answer) (replied : answer ≡ out.reply)
      (ps' : Names KeptPoint) (ss' : Names ℕ) (hs' : Names HolderEntry) (ws' : Names WaitEntry)
      (points : seen point_seen ps' ≡ out.hall.points) (senders : ss' ≡ out.hall.senders) (holders : seen holder_seen hs' ≡ out.hall.holders) (waits : seen wait_seen ws' ≡ out.hall.waits) (each : Each ps' ss' hs' ws' (i + 1)) where
    same : counts_seen ps' ss' hs' ws' ≡ out.hall
    same j = record { points = points j; senders = senders j; holders = holders j; waits = waits j }

    keeps_as : AreKeptCounts ps' ss' hs' ws' (i + 1)
    keeps_as = record { valid = subst (λ (g : Counts). HasCounts g (i + 1)) (sym same) valid; each = each.at }

    before_is : registered here ≡ kept_in s.ps
    before_is = registered_is s.ps

    after_is : registered out.hall ≡ kept_in ps'
    after_is = ap registered (sym same) ∙ registered_is ps'

    pub rests_as : out.wakes ≡ [] → kept_in ps' ≡ kept_in s.ps → (AreKeptCounts ps' ss' hs' ws' (i + 1)) × PartRests registered old i (F old.hall) answer (part_of ps' ss' hs' ws' (i + 1))
    rests_as silent waiting = (
      keeps_as,
      subst (λ p. PartRests registered p i (F p.hall) answer (part_of ps' ss' hs' ws' (i + 1))) s.view (rw is (record {
        replied = replied;
        moved = λ j. record { hall = same j; next = i + 1 };
        silent = silent;
        counted = after_is ∙ waiting ∙ sym before_is;
      })),
    )

    pub yields_as : (before after : Waking ℕ) → after.wakers ≡ before.wakers ++ out.wakes → after.registered + kept_in s.ps ≡ before.registered + kept_in ps' → (AreKeptCounts ps' ss' hs' ws' (i + 1)) × PartYields registered old i (F old.hall) answer (part_of ps' ss' hs' ws' (i + 1)) before after
    yields_as before after woken waiting = (
      keeps_as,
      subst (λ p. PartYields registered p i (F p.hall) answer (part_of ps' ss' hs' ws' (i + 1)) before after) s.view (rw is (record {
        replied = replied;
        moved = λ j. record { hall = same j; next = i + 1 };
        woken = woken;
        counted = omega (arith, waiting, before_is, after_is);
      })),
    )

  -- ---- whether a name is known
  pub known_holder : (k : ℕ) (p : Option HolderEntry) → get s.hs k ≡ p → is_holder old.hall k ≡ is_some p
  known_holder k p is = sym (is_holder_is s.ps s.ss s.hs s.ws s.next s.view k) ∙ ap is_some is

  pub known_wait : (f : ℕ) (p : Option WaitEntry) → get s.ws f ≡ p → is_wait old.hall f ≡ is_some p
  known_wait f p is = sym (is_wait_is s.ps s.ss s.hs s.ws s.next s.view f) ∙ ap is_some is

  pub known_sender : (k : ℕ) (p : Option ℕ) → get s.ss k ≡ p → is_sender old.hall k ≡ is_some p
  known_sender k p is = sym (is_sender_is s.ps s.ss s.hs s.ws s.next s.view k) ∙ ap is_some is

  -- ---- what is not there yet
  pub new_point : get s.ps i ≡ None
  new_point = seen-none_back point_seen s.ps i (no_point here s.next i s.kept.valid s.later)

  pub new_holder : get s.hs i ≡ None
  new_holder = seen-none_back holder_seen s.hs i (no_holder here s.next i s.kept.valid s.later)

  pub new_wait : get s.ws i ≡ None
  new_wait = seen-none_back wait_seen s.ws i (no_wait here s.next i s.kept.valid s.later)

  pub new_sender : get s.ss i ≡ None
  new_sender = no_sender here s.next i s.kept.valid s.later

  -- ---- what is there
  pub point_there : (o : ℕ) → IsSome (get old.hall.points o) → IsSome (get s.ps o)
  point_there o some = seen-some_back point_seen s.ps o (in_view (λ h. IsSome (get h.points o)) some)

  pub holders_point : (k : ℕ) (x : HolderEntry) → get s.hs k ≡ Some x → IsSome (get s.ps x.point)
  holders_point k x there = seen-some_back point_seen s.ps x.point (s.kept.valid.holders.at k (holder_seen x) (seen-at holder_seen s.hs k x there)).1

  pub senders_point : (k o : ℕ) → get s.ss k ≡ Some o → IsSome (get s.ps o)
  senders_point k o there = seen-some_back point_seen s.ps o (s.kept.valid.senders.at k o there).1

  pub waits_point : (f : ℕ) (y : WaitEntry) → get s.ws f ≡ Some y → IsSome (get s.ps y.point)
  waits_point f y there = seen-some_back point_seen s.ps y.point (s.kept.valid.waits.at f (wait_seen y) (seen-at wait_seen s.ws f y there)).1

  -- ---- at a point that is there
  module _ (o : ℕ) (e : KeptPoint) (there : get s.ps o ≡ Some e) where
    abbrev pub its : AreKept e (own of_wait o s.ws) (own of_holder o s.hs) (own model.of_itself o s.ss) s.next
    its = s.kept.each o e there

    pub seen_there : get (seen point_seen s.ps) o ≡ Some (point_seen e)
    seen_there = seen-at point_seen s.ps o e there

    pub its_room : (before : Waking ℕ) → registered old.hall ≤ before.registered → kept_by e.point ≤ before.registered
    its_room before room =
        let all : registered old.hall ≡ kept_in s.ps = ap (λ (p : Part Counts). registered p.hall) (sym s.view) ∙ registered_is s.ps in
        omega (arith, room, all, total-has (λ o (e : KeptPoint). kept_by e.point) s.ps o e there)

    pub its_few : i < 2 ^ 64 → e.things + 1 < 2 ^ 128
    its_few fits = let few = (its).few in let later = s.later in omega (arith, few, later, fits)

    pub found_here : (act : Point → Outcome Counts) → found (get (seen point_seen s.ps) o) here act ≡ act (point_seen e)
    found_here act = found_is _ here act (point_seen e) seen_there

    -- how many wakers are kept where the point is d now, or is gone
    pub kept_now : (d : KeptPoint) → kept_in (insert s.ps o d) + kept_by e.point ≡ kept_in s.ps + kept_by d.point
    kept_now d =
        let was : weight (λ o (e : KeptPoint). kept_by e.point) o (get s.ps o) ≡ kept_by e.point = ap (weight (λ o (e : KeptPoint). kept_by e.point) o) there in
        omega (arith, was, total-insert (λ o (e : KeptPoint). kept_by e.point) s.ps o d)

    kept_without : kept_in (remove s.ps o) + kept_by e.point ≡ kept_in s.ps
    kept_without =
        let was : weight (λ o (e : KeptPoint). kept_by e.point) o (get s.ps o) ≡ kept_by e.point = ap (weight (λ o (e : KeptPoint). kept_by e.point) o) there in
        omega (arith, was, total-remove (λ o (e : KeptPoint). kept_by e.point) s.ps o)

    module _ (ss' : Names ℕ) (hs' : Names HolderEntry) (ws' : Names WaitEntry) (senders : Moves model.of_itself o i s.ss ss') (holders : Moves of_holder o i s.hs hs') (waits : Moves of_wait o i s.ws ws') where
      elsewhere : (q : ℕ) (d : KeptPoint) → (o ≡ q → ⊥) → get s.ps q ≡ Some d → AreKept d (own of_wait q ws') (own of_holder q hs') (own model.of_itself q ss') (i + 1)
      elsewhere q d apart is = rw (moves_elsewhere of_wait o i s.ws ws' waits q apart, moves_elsewhere of_holder o i s.hs hs' holders q apart, moves_elsewhere model.of_itself o i s.ss ss' senders q apart)
          (lasts d (own of_wait q s.ws) (own of_holder q s.hs) (own model.of_itself q s.ss) s.next (i + 1) (s.kept.each q d is) (let later = s.later in omega (arith, later)))

      pub each_turned : (d : KeptPoint) → AreKept d (own of_wait o ws') (own of_holder o hs') (own model.of_itself o ss') (i + 1) → Each (insert s.ps o d) ss' hs' ws' (i + 1)
      each_turned d good = record {
        at = by_put s.ps o d (λ q p. (d : KeptPoint) → p ≡ Some d → AreKept d (own of_wait q ws') (own of_holder q hs') (own model.of_itself q ss') (i + 1))
            (λ g is. subst (λ g. AreKept g (own of_wait o ws') (own of_holder o hs') (own model.of_itself o ss') (i + 1)) (inside is) good) (λ q apart g is. elsewhere q g apart is);
      }

      -- the point is d now, or gone where that has nothing
      module _ (d : KeptPoint) (over : Bool) (is_it : (d.things == 0) ≡ over) (good : AreKept d (own of_wait o ws') (own of_holder o hs') (own model.of_itself o ss') (i + 1)) where
        pub each_tidied : Each (if over then remove (insert s.ps o d) o else insert s.ps o d) ss' hs' ws' (i + 1)
        each_tidied = at over
          where
            at : (b : Bool) → Each (if b then remove (insert s.ps o d) o else insert s.ps o d) ss' hs' ws' (i + 1)
            at true = record {
              at = subst (λ ps. (q : ℕ) (g : KeptPoint) → get ps q ≡ Some g → AreKept g (own of_wait q ws') (own of_holder q hs') (own model.of_itself q ss') (i + 1)) (sym (put_gone s.ps o d))
                  (by_gone s.ps o (λ q p. (g : KeptPoint) → p ≡ Some g → AreKept g (own of_wait q ws') (own of_holder q hs') (own model.of_itself q ss') (i + 1)) (λ g is. absurd (cc)) (λ q apart g is. elsewhere q g apart is));
            }
            at false = each_turned d good

        things_now : (m : Counts) → m.senders ≡ ss' → m.holders ≡ seen holder_seen hs' → m.waits ≡ seen wait_seen ws' → things_of m o ≡ d.things
        things_now m ms mh mw =
            let all = good.things in
            let first : len (own model.of_itself o m.senders) ≡ len (own model.of_itself o ss') = ap (λ x. len (own model.of_itself o x)) ms in
            let second : len (own model.of_holder o m.holders) ≡ len (own of_holder o hs') = ap (λ x. len (own model.of_holder o x)) mh ∙ ap len (own-seen of_holder model.of_holder holder_seen (λ x. refl) o hs') ∙ len-seen holder_seen (own of_holder o hs') in
            let third : len (own model.of_wait o m.waits) ≡ len (own of_wait o ws') = ap (λ x. len (own model.of_wait o x)) mw ∙ ap len (own-seen of_wait model.of_wait wait_seen (λ x. refl) o ws') ∙ len-seen wait_seen (own of_wait o ws') in
            omega (arith, all, first, second, third)

        pub seen_tidied : (m : Counts) (r : Point) → m.points ≡ seen point_seen s.ps → m.senders ≡ ss' → m.holders ≡ seen holder_seen hs' → m.waits ≡ seen wait_seen ws' → point_seen d ≡ r → seen point_seen (if over then remove (insert s.ps o d) o else insert s.ps o d) ≡ (tidied m o r).points
        seen_tidied m r mp ms mh mw to = at over is_it
          where
            at : (b : Bool) → (d.things == 0) ≡ b → seen point_seen (if b then remove (insert s.ps o d) o else insert s.ps o d) ≡ (if things_of m o == 0 then remove m.points o else insert m.points o r)
            at true is = ap (seen point_seen) (put_gone s.ps o d) ∙ seen-remove point_seen s.ps o ∙ ap (λ ps. remove ps o) (sym mp) ∙ sym (if_true (things_of m o == 0) (remove m.points o) (insert m.points o r) (ap (λ n. n == 0) (things_now m ms mh mw) ∙ is))
            at false is = seen-insert point_seen s.ps o d ∙ (λ j. insert (sym mp j) o (to j)) ∙ sym (if_false (things_of m o == 0) (remove m.points o) (insert m.points o r) (ap (λ n. n == 0) (things_now m ms mh mw) ∙ is))

        pub kept_tidied : (before after : ℕ) → after + (if over then kept_by d.point else 0) ≡ before → after + kept_in s.ps + kept_by d.point ≡ before + kept_in (if over then remove (insert s.ps o d) o else insert s.ps o d) + kept_by e.point
        kept_tidied before after released = at over released
          where
            at : (b : Bool) → after + (if b then kept_by d.point else 0) ≡ before → after + kept_in s.ps + kept_by d.point ≡ before + kept_in (if b then remove (insert s.ps o d) o else insert s.ps o d) + kept_by e.point
            at true is = let gone : kept_in (remove (insert s.ps o d) o) ≡ kept_in (remove s.ps o) = ap kept_in (put_gone s.ps o d) in omega (arith, is, gone, kept_without)
            at false is = let now = kept_now d in omega (arith, is, now)

  pub over_there : (o : ℕ) (d : KeptPoint) → IsSome (get (insert s.ps o d) o)
  over_there o d = is_there _ d (get-there s.ps o d)

  -- nothing is of a new point
  absent : IsSome (get (seen point_seen s.ps) i) → ⊥
  absent some = absurd (let none = ap is_some (no_point here s.next i s.kept.valid s.later) in let no = sym none ∙ some in cc)

  pub own_no_wait : own of_wait i s.ws ≡ empty
  own_no_wait = own-empty of_wait i s.ws (λ f y is mine. absent (subst (λ o. IsSome (get (seen point_seen s.ps) o)) (sym mine) (s.kept.valid.waits.at f (wait_seen y) (seen-at wait_seen s.ws f y is)).1))

  pub own_no_holder : own of_holder i s.hs ≡ empty
  own_no_holder = own-empty of_holder i s.hs (λ k x is mine. absent (subst (λ o. IsSome (get (seen point_seen s.ps) o)) (sym mine) (s.kept.valid.holders.at k (holder_seen x) (seen-at holder_seen s.hs k x is)).1))

  pub own_no_sender : own model.of_itself i s.ss ≡ empty
  own_no_sender = own-empty model.of_itself i s.ss (λ k o is mine. absent (subst (λ o. IsSome (get (seen point_seen s.ps) o)) (sym mine) (s.kept.valid.senders.at k o is).1))

  -- a point is made
  pub each_made : (ss' : Names ℕ) (hs' : Names HolderEntry) (senders : Moves model.of_itself i i s.ss ss') (holders : Moves of_holder i i s.hs hs') (d : KeptPoint) → AreKept d (own of_wait i s.ws) (own of_holder i hs') (own model.of_itself i ss') (i + 1) → Each (insert s.ps i d) ss' hs' s.ws (i + 1)
  each_made ss' hs' senders holders d good = record {
    at = by_put s.ps i d (λ q p. (d : KeptPoint) → p ≡ Some d → AreKept d (own of_wait q s.ws) (own of_holder q hs') (own model.of_itself q ss') (i + 1))
        (λ g is. subst (λ g. AreKept g (own of_wait i s.ws) (own of_holder i hs') (own model.of_itself i ss') (i + 1)) (inside is) good)
        (λ q apart g is. rw (moves_elsewhere of_holder i i s.hs hs' holders q apart, moves_elsewhere model.of_itself i i s.ss ss' senders q apart)
        (lasts g (own of_wait q s.ws) (own of_holder q s.hs) (own model.of_itself q s.ss) s.next (i + 1) (s.kept.each q g is) (let later = s.later in omega (arith, later))));
  }

  pub kept_made : (d : KeptPoint) → kept_by d.point ≡ 0 → kept_in (insert s.ps i d) ≡ kept_in s.ps
  kept_made d none =
      let nothing : weight (λ o (e : KeptPoint). kept_by e.point) i (get s.ps i) ≡ 0 = ap (weight (λ o (e : KeptPoint). kept_by e.point) i) new_point in
      omega (arith, none, nothing, total-insert (λ o (e : KeptPoint). kept_by e.point) s.ps i d)

  -- nothing changes but the number
  pub each_rests : Each s.ps s.ss s.hs s.ws (i + 1)
  each_rests = record { at = λ o e is. lasts e (own of_wait o s.ws) (own of_holder o s.hs) (own model.of_itself o s.ss) s.next (i + 1) (s.kept.each o e is) (let later = s.later in omega (arith, later)) }

  -- what an action does is valid
  pub valid_act : (a : Action) → cause_in old.hall a ≡ None → MayAct here a → HasCounts (act_in here i a).hall (i + 1)
  valid_act a allowed may = keeps here s.next i s.kept.valid s.later a (in_view (λ h. cause_in h a ≡ None) allowed) may

-- the points as they are looked at
abbrev pub look : {old : Part Counts} (ps : Names KeptPoint) (ss : Names ℕ) (hs : Names HolderEntry) (ws : Names WaitEntry) (next : ℕ) → ◌≡◌ {A = Part Counts} (record { hall = counts_seen ps ss hs ws; next = next }) old → AreKeptCounts ps ss hs ws next → Site old next
look ps ss hs ws next view kept = record { ps = ps; ss = ss; hs = hs; ws = ws; next = next; view = view; kept = kept; later = omega arith }

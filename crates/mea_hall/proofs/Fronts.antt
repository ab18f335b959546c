-- how fronts go on
use Rattle.std.proofs.Common.{◌≡◌, ◌≢◌, ◌⊎◌, inl, inr, refl, ℕ, suc, ◌+◌, ◌<◌, List, [], ◌∷◌, ◌++◌, Some, None, length, take, drop, get_or, ap, sym, ◌∙◌, arith, append-nil}
use Rattle.std.proofs.lemmas.List.{take_more, length-take-le, take-append-drop}
use Rattle.std.proofs.Math.Seq.{drop-cons}
use Rattle.std.specs.List.{slice_get}
use Rattle.std.proofs.lemmas.Option.{slice_get-get_or}
use Rattle.mea_family.specs.declared.answer.Answer.{Answer}
use Rattle.mea_family.specs.declared.stop.Stop.{Stop}
use Rattle.mea_family.specs.declared.stop.Stop.TheVariants.{Unknown, Borrowed, Zero, Overflow, NoMemory}
use Rattle.mea_events.specs.declared.event.Event.{Event}
use Rattle.mea_hall.specs.World.{World, empty_world, cause_of, step}
use Rattle.mea_hall.specs.Front.{Front, front_at, front_from, front_of, prepended, IsLegal}

-- events without a cause, and then others
pub front_goes_on : (w : World) (i : ℕ) (es fs : List Event) (v : World) (rs : List (Answer × List ℕ))
    → front_from w i es ≡ record { world = v; replies = rs; cause = None }
    → front_from w i (es ++ fs) ≡ prepended rs (front_from v (i + length es) fs)
front_goes_on w i [] fs v rs is =
    ap (λ (x : World). front_from x i fs) (ap (λ f. f.world) is) ∙ ap (λ k. front_from v k fs) (omega arith)
    ∙ ap (λ told. prepended told (front_from v (i + 0) fs)) (ap (λ f. f.replies) is)
front_goes_on w i (e ∷ es) fs v rs is =
    let next : Front = front_from (step w i e).world (i + 1) es in
    elim (cause_of w e) as (λ c. front_at c w (step w i e).reply next ≡ record { world = v; replies = rs; cause = None }
    → front_at c w (step w i e).reply (front_from (step w i e).world (i + 1) (es ++ fs)) ≡ prepended rs (front_from v (i + length (e ∷ es)) fs)) [
      | Some stop ↦ λ h. absurd (let no : Some stop ≡ None = ap (λ f. f.cause) h in cc)
      | None ↦ λ h.
          let here : next ≡ record { world = v; replies = next.replies; cause = None } =
          λ k. record { world = (h k).world; replies = next.replies; cause = (h k).cause } in
          let later : front_from (step w i e).world (i + 1) (es ++ fs) ≡ prepended next.replies (front_from v (i + 1 + length es) fs) =
          front_goes_on (step w i e).world (i + 1) es fs v next.replies here in
          ap (front_at None w (step w i e).reply) later
          ∙ ap (λ told. prepended told (front_from v (i + 1 + length es) fs)) (ap (λ f. f.replies) h)
          ∙ ap (λ k. prepended rs (front_from v k fs)) (omega arith)
    ] is

-- events that were played with no cause so far, and the next one
module _ (es : List Event) (i : ℕ) (d : Event) (w : World) (rs : List (Answer × List ℕ)) (more : i < length es)
    (so_far : front_of (take i es) ≡ record { world = w; replies = rs; cause = None }) where
  -- what is played of them, and then of others
  after_them : (fs : List Event) → front_of (take i es ++ fs) ≡ prepended rs (front_from w i fs)
  after_them fs =
      let few : length (take i es) ≡ i = length-take-le i es (omega arith) in
      front_goes_on empty_world 0 (take i es) fs w rs so_far ∙ ap (λ k. prepended rs (front_from w k fs)) (omega arith)

  pub front_step : cause_of w (get_or es i d) ≡ None
      → front_of (take (i + 1) es) ≡ record { world = (step w i (get_or es i d)).world; replies = rs ++ (step w i (get_or es i d)).reply ∷ []; cause = None }
  front_step allowed =
      ap front_of (take_more es i d more) ∙ after_them (get_or es i d ∷ [])
      ∙ ap (λ c. prepended rs (front_at c w (step w i (get_or es i d)).reply (front_from (step w i (get_or es i d)).world (i + 1) []))) allowed

  pub front_stops : (stop : Stop) → cause_of w (get_or es i d) ≡ Some stop → front_of es ≡ record { world = w; replies = rs; cause = Some stop }
  front_stops stop refused =
      let whole : es ≡ take i es ++ get_or es i d ∷ drop (suc i) es = sym (take-append-drop i es) ∙ ap (λ fs. take i es ++ fs) (drop-cons es i d more) in
      ap front_of whole ∙ after_them (get_or es i d ∷ drop (suc i) es)
      ∙ ap (λ c. prepended rs (front_at c w (step w i (get_or es i d)).reply (front_from (step w i (get_or es i d)).world (i + 1) (drop (suc i) es)))) refused
      ∙ ap (λ told. record { world = w; replies = told; cause = Some stop }) (append-nil rs)

no_memory_or_not : (stop : Stop) → (stop ≡ NoMemory) ⊎ (stop ≢ NoMemory)
no_memory_or_not Unknown = inr (λ e. cc)
no_memory_or_not Borrowed = inr (λ e. cc)
no_memory_or_not Zero = inr (λ e. cc)
no_memory_or_not Overflow = inr (λ e. cc)
no_memory_or_not NoMemory = inl refl

-- legal events are refused for want of memory alone
pub legal_ends : (es : List Event) (w : World) (rs : List (Answer × List ℕ)) (stop : Stop)
    → (stop ≢ NoMemory → front_of es ≡ record { world = w; replies = rs; cause = Some stop }) → IsLegal es → stop ≡ NoMemory
legal_ends es w rs stop caused legal = elim (no_memory_or_not stop) [
  | inl is ↦ is
  | inr not ↦ absurd (let no : Some stop ≡ None = ap (λ f. f.cause) (sym (caused not)) ∙ legal in cc)
]

-- the event at which events stopped
pub stopped_at : (es : List Event) (i : ℕ) (d : Event) (w v : World) (stop : Stop) (n : ℕ) → i < length es → n ≡ i → w ≡ v
    → cause_of v (get_or es i d) ≡ Some stop → (e : Event) × (slice_get es n ≡ Some e) × (cause_of w e ≡ Some stop)
stopped_at es i d w v stop n more here world refused =
    (get_or es i d, ap (slice_get es) here ∙ slice_get-get_or es i d more, ap (λ u. cause_of u (get_or es i d)) world ∙ refused)

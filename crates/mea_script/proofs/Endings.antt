-- how a script ends that was played to its end
use Rattle.std.proofs.Common.{◌≡◌, ◌⊎◌, inl, inr, ℕ, ◌++◌, List, [], Option, Some, refl, ap, sym, subst, ◌∙◌, append-nil, append_assoc}
use Rattle.mea_io.specs.Bytes.{HasWritten, HasWrittenPart}
use Rattle.mea_script.specs.declared.status.Status.{Status}
use Rattle.mea_script.specs.declared.status.Status.TheVariants.{ReadFault, WriteFault, NoMemory, Usage}
use Rattle.mea_script.specs.Lines.{limit}
use Rattle.mea_script.specs.Player.{told_of, Ends}
use Rattle.mea_script.specs.Rules.{Rules}
use Rattle.mea_script.specs.Runs.{IsFault, IsWriteFault, IsClosed, Answers, Tells}
use Rattle.mea_script.specs.Told.{Told, with_text, told_by}

-- what was left to write was written, or some of it
pub closes : (status result : Status) (whole before text : List ℕ) (old new : Option (List ℕ)) → Ends status whole before old text
    → ((b : List ℕ) → old ≡ Some b → IsClosed text status result b new)
    → (IsFault result × HasWrittenPart whole before new) ⊎ ((result ≡ status) × HasWritten whole before new)
closes status result whole before text old new h wrote = elim (wrote (before ++ h.written) h.took) [
  | inl failed ↦
      let part = failed.1 in
      inl (
        inr failed.0,
        (
          h.written ++ part.0,
          part.1 ++ h.rest,
          h.front ∙ ap (λ bytes. h.written ++ (bytes ++ h.rest)) part.2 ∙ ap (λ bytes. h.written ++ bytes) (append_assoc part.0 part.1 h.rest)
              ∙ sym (append_assoc h.written part.0 (part.1 ++ h.rest)),
          part.3 ∙ ap (λ bytes. Some bytes) (append_assoc before h.written part.0),
        ),
      )
  | inr done ↦
      let now : new ≡ Some (before ++ (h.written ++ text)) = done.1 ∙ ap (λ bytes. Some bytes) (append_assoc before h.written text) in
      let front : whole ≡ (h.written ++ text) ++ h.rest = h.front ∙ sym (append_assoc h.written text h.rest) in
      elim h.ended [
        | inl fault ↦ inl (subst IsFault (sym done.0) fault, (h.written ++ text, h.rest, front, now))
        | inr none ↦
            inr (
              done.0,
              now ∙ ap (λ bytes. Some (before ++ bytes)) (sym (front ∙ ap (λ rest. (h.written ++ text) ++ rest) none ∙ append-nil (h.written ++ text))),
            )
      ]
]

-- nothing was played of a script yet
pub due_all : {S E : Type 0} (m : Rules S E) (s : S) (text script : List ℕ) (n : ℕ) → text ≡ [] → n ≡ 0
    → with_text text (told_of m s n limit script) ≡ told_by m s script
unfolding told_of told_by
due_all m s text script n none first = λ i. with_text (none i) (told_of m s (first i) limit script)

-- a write that fails, or wants memory, is no wrong use
pub no_usage : (status : Status) → IsWriteFault status → status ≡ Usage → ⊥
no_usage status (inl fault) usage = absurd (cc)
no_usage status (inr memory) usage = absurd (cc)

-- and no read that fails
pub no_read_fault : (status : Status) → IsWriteFault status → status ≡ ReadFault → ⊥
no_read_fault status (inl fault) read = absurd (cc)
no_read_fault status (inr memory) read = absurd (cc)

-- ---- what is told in all

pub tells_nothing : (told : Told) (status : Status) (before : List ℕ) (taken : Option (List ℕ)) → IsFault status → taken ≡ Some before
    → Tells told status before taken
tells_nothing told status before taken fault is = inl (fault, ([], told.text, refl, is ∙ ap (λ bytes. Some bytes) (sym (append-nil before))))

pub tells_status : (due told : Told) (status result : Status) → due ≡ told → IsFault status ⊎ (status ≡ due.status)
    → IsFault result ⊎ (result ≡ status) → IsFault result ⊎ (result ≡ told.status)
tells_status due told status result same ended closed = elim closed [
  | inl fault ↦ inl fault
  | inr is ↦ elim ended [
    | inl fault ↦ inl (subst IsFault (sym is) fault)
    | inr whole ↦ inr (is ∙ whole ∙ ap (λ (t : Told). t.status) same)
  ]
]

pub tells_all : (due told : Told) (status result : Status) (before : List ℕ) (taken : Option (List ℕ)) → due ≡ told
    → IsFault status ⊎ (status ≡ due.status)
    → (IsFault result × HasWrittenPart due.text before taken) ⊎ ((result ≡ status) × HasWritten due.text before taken)
    → Tells told result before taken
tells_all due told status result before taken same ended closed = elim closed [
  | inl part ↦ inl (part.0, subst (λ (t : Told). HasWrittenPart t.text before taken) same part.1)
  | inr whole ↦
      let all : HasWritten told.text before taken = subst (λ (t : Told). HasWritten t.text before taken) same whole.1 in
      elim ended [
        | inl fault ↦ inl (subst IsFault (sym whole.0) fault, (told.text, [], sym (append-nil told.text), all))
        | inr is ↦ inr (whole.0 ∙ is ∙ ap (λ (t : Told). t.status) same, all)
      ]
]

-- where neither a read nor a write failed, only want of memory tells less than all
pub tells_whole : (told : Told) (status : Status) (before : List ℕ) (taken : Option (List ℕ)) (reads writes : Type 0)
    → (status ≡ ReadFault → reads) → (status ≡ WriteFault → writes) → (reads → ⊥) → (writes → ⊥) → Tells told status before taken
    → (status ≡ NoMemory) ⊎ Answers told status before taken
tells_whole told status before taken reads writes read write no_reads no_writes all = elim all [
  | inl part ↦ elim part.0 [
    | inl failed ↦ absurd (no_reads (read failed))
    | inr other ↦ elim other [ inl failed ↦ absurd (no_writes (write failed)) | inr memory ↦ inl memory ]
  ]
  | inr whole ↦ inr whole
]

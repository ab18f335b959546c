use Rattle.std.proofs.Common.{ℕ, List, inl, inr, ap, sym, ◌∙◌, subst}
use Rattle.mea_script.specs.Runs.{IsClosed, line_of}
use Rattle.mea_script.proofs.Ended.{no_line}
use Rattle.mea_script.proofs.Endings.{closes, no_usage, no_read_fault}
use Rattle.mea_script.proofs.player.Player.close.Goals as goal

pub returns-clause-told : goal.returns-clause-told
returns-clause-told g c = λ whole before h.
    closes c.args.status c.write_last.result whole before c.args.self.text.items (g.K.Sink.taken c.args.sink.now) (g.K.Sink.taken c.write_last.new.sink) h
    (λ b is. subst (λ (text : List ℕ). IsClosed text c.args.status c.write_last.result b (g.K.Sink.taken c.write_last.new.sink)) c.as_slice.ensures.value (c.write_last.ensures.told b is))

pub returns-clause-stopped : goal.returns-clause-stopped
returns-clause-stopped g c = λ at stop is. elim c.write_last.ensures.same [
  | inl fault ↦ absurd (no_line c.write_last.result at (inr fault) (ap line_of is))
  | inr same ↦ sym same ∙ is
]

pub returns-clause-read_fault : goal.returns-clause-read_fault
returns-clause-read_fault g c = λ is. elim c.write_last.ensures.same [
  | inl fault ↦ absurd (no_read_fault c.write_last.result fault is)
  | inr same ↦ sym same ∙ is
]

pub returns-clause-usage : goal.returns-clause-usage
returns-clause-usage g c = λ is. elim c.write_last.ensures.same [
  | inl fault ↦ absurd (no_usage c.write_last.result fault is)
  | inr same ↦ sym same ∙ is
]

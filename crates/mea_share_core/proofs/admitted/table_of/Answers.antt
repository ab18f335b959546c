use Rattle.std.proofs.Common.{◌≡◌, sym, ap, ◌∙◌}
use Rattle.std.specs.FinMap.{insert}
use Rattle.mea_base.proofs.NamedMaps.{named_put}
use Rattle.mea_share_core.specs.Share.{kept, lone}
use Rattle.mea_share_core.proofs.Alone.{put_alone}
use Rattle.mea_share_core.proofs.Kept.{kept-same}
use Rattle.mea_share_core.proofs.admitted.table_of.Goals as goal
use Rattle.mea_share_core.proofs.admitted.table_of.Goals.{in-Some+in_ok-insert-in-Some, in-None}

pub returns-clause-members : goal.returns-clause-members
returns-clause-members c =
    ap (λ (t : _). kept t.entries) c.in_ok-new.ensures.ok
    ∙ kept-same c.match-number.table.entries c.reserve.new.self.entries c.reserve.ensures.entries.2
    ∙ made
  where
    made : kept c.match-number.table.entries ≡ kept (lone c.args.number)
    made = elim c.match-number.branch [
      | in-Some+in_ok-insert-in-Some w ↦
          ap (λ (t : _). kept t.entries) w.table-is
          ∙ named_put (λ k x. x) c.new-table.result.entries w.insert.new.self.entries w.in-Some.number tt w.in_ok-insert-in-Some.ensures.updates.0
          ∙ ap (λ es. insert (kept es) w.in-Some.number tt) c.new-table.ensures.empty ∙ sym (put_alone w.in-Some.number tt) ∙ ap (λ o. kept (lone o)) (sym w.in-Some.is)
      | in-None w ↦ ap (λ (t : _). kept t.entries) w.table-is ∙ ap kept c.new-table.ensures.empty ∙ ap (λ o. kept (lone o)) (sym w.in-None.is)
    ]

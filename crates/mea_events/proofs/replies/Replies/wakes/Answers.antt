use Rattle.std.proofs.Common.{ℕ, length, ap, refl, sym, ◌∙◌, arith, List, Some, slice_range}
use Rattle.std.specs.Option.{option_map}
use Rattle.mea_family.specs.declared.answer.Answer.{Answer}
use Rattle.mea_events.proofs.ToldReplies.{within_items, reply_read}
use Rattle.mea_events.proofs.replies.Replies.wakes.Goals as goal

pub index-requires : goal.index-requires
index-requires c = within_items c.self.inside.replies.items c.self.inside.wakes.items c.args.index c.self.inside.replies.len _ _ c.self.view_is refl c.requires c.self.inside.replies.ok.0

pub end_of-end-requires : goal.end_of-end-requires
end_of-end-requires c =
    let within = within_items c.self.inside.replies.items c.self.inside.wakes.items c.args.index c.self.inside.replies.len _ _ c.self.view_is refl c.requires c.self.inside.replies.ok.0 in
    omega (arith, within, c.deref.ensures.len)

pub between-requires : goal.between-requires
between-requires c =
    let within = within_items c.self.inside.replies.items c.self.inside.wakes.items c.args.index c.self.inside.replies.len _ _ c.self.view_is refl c.requires c.self.inside.replies.ok.0 in
    let reply = reply_read c.self.inside.replies.items c.deref.result.now c.self.inside.wakes.items c.args.index c.self.inside.replies.len c.index.result.now c.end_of-end.result c.len.result
    c.self.invariant c.self.inside.replies.ok.0 within c.index.ensures c.end_of-end.ensures c.deref.ensures.value (c.len.ensures ∙ c.self.inside.wakes.ok.0) in
    (reply.0, omega (arith, reply.1, ap length c.deref-2.ensures.value))

pub returns : goal.returns
returns c =
    let within = within_items c.self.inside.replies.items c.self.inside.wakes.items c.args.index c.self.inside.replies.len _ _ c.self.view_is refl c.requires c.self.inside.replies.ok.0 in
    let reply = reply_read c.self.inside.replies.items c.deref.result.now c.self.inside.wakes.items c.args.index c.self.inside.replies.len c.index.result.now c.end_of-end.result c.len.result
    c.self.invariant c.self.inside.replies.ok.0 within c.index.ensures c.end_of-end.ensures c.deref.ensures.value (c.len.ensures ∙ c.self.inside.wakes.ok.0) in
    let part = ap (λ ws. slice_range ws c.index.result.now.first c.end_of-end.result) c.deref-2.ensures.value in
    rw (← c.self.view_is) (ap (option_map {T = Answer × List ℕ} (λ told. told.1)) reply.2 ∙ ap Some (sym (c.between.ensures ∙ part)))

use Rattle.std.proofs.Common.{◌≡◌, ◌-◌, ◌∙◌, ap, length, arith}
use Rattle.std.proofs.lemmas.Grind.{common_steps}
use Rattle.std.proofs.lemmas.Result.{on_ok_weaker}
use Rattle.mea_script.proofs.Begins.{kept_more, is_long_now, is_long_still}
use Rattle.mea_script.proofs.begun.Begun.add.Goals as goal
use Rattle.mea_script.proofs.begun.Begun.add.Goals.{then-bytes-room, else-bytes-room}

pub returns : goal.returns
returns c = on_ok_weaker c.put_text.result (λ put line keeps.
    let room : c.saturating_sub-room.result ≡ 96 - length c.args.self.now.kept.items = omega (arith, c.saturating_sub-room.ensures, c.len.ensures, c.args.self.now.kept.ok.0) in
    let kept : c.if-bytes-room.self.kept.items ≡ c.args.self.now.kept.items = elim c.if-bytes-room.branch [
      | then-bytes-room w ↦ ap (λ b. b.kept.items) w.self-is
      | else-bytes-room w ↦ ap (λ b. b.kept.items) w.self-is
    ] in
    record {
      first = kept_more c.args.self.now.kept.items c.put_text.new.out.items line c.args.bytes.now c.saturating_sub-room.result keeps.first room (grind (arith, common_steps, put, kept, c.min.ensures));
      more = elim c.if-bytes-room.branch [
        | then-bytes-room w ↦ ap (λ b. b.is_long) w.self-is
            ∙ is_long_now c.args.self.now.kept.items line c.args.bytes.now c.saturating_sub-room.result keeps.first room w.if-bytes-room.true
        | else-bytes-room w ↦ ap (λ b. b.is_long) w.self-is
            ∙ is_long_still c.args.self.now.kept.items line c.args.bytes.now c.saturating_sub-room.result keeps.first room c.args.self.now.is_long keeps.more w.if-bytes-room.false
      ];
    }) c.put_text.ensures.ok

use Rattle.std.proofs.Common.{◌≡◌, ◌-◌, [], ◌∷◌, map, length, take, drop, string_bytes, ap, ◌∙◌, rules, arith}
use Rattle.mea_text.proofs.Commands.{first_word}
use Rattle.mea_task_run.proofs.running.is_tasks.Goals as goal

pub returns-in-len1 : goal.returns-in-len1
returns-in-len1 c =
    let one : length c.args.words.now ≡ 1 = omega arith in
    let words : map string_bytes c.args.words.now ≡ string_bytes c.word-item.result ∷ [] =
    first_word string_bytes c.args.words.now c.word-item.result (omega arith) c.word-item.is
    ∙ ap (λ n. string_bytes c.word-item.result ∷ map string_bytes (take (n - 1) (drop 1 c.args.words.now))) one in
    rw words (search rules)

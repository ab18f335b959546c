-- the text of a reply of a pool
use Rattle.std.specs.Prelude.{ℕ, ◌++◌, List, codes}
use Rattle.mea_text.specs.Reply.{reply_text}
use Rattle.mea_text.specs.Text.{number_text}
use Rattle.mea_pool_run.specs.declared.reply.PoolReply.{PoolReply}
use Rattle.mea_pool_run.specs.declared.reply.PoolReply.TheVariants.{Told, Leased, Unknown}

-- the whole line, with its wakes; a lease and an unknown name wake nobody
abbrev pub text_of : PoolReply → List ℕ → List ℕ
text_of (Told answer) wakes = reply_text answer wakes
text_of (Leased slot value) wakes = codes "lease" ++ number_text slot ++ number_text value ++ codes "\n"
text_of Unknown wakes = codes "unknown\n"

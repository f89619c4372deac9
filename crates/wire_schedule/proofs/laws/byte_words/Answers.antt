use Rattle.std.proofs.lemmas.Bool.{and_from, le-leb}
use Rattle.wire_schedule.proofs.HexLemmas.{bytes_of-hex_text, hex_text-bytes_of}
use Rattle.wire_schedule.proofs.laws.byte_words.Goals as goal

pub returns-clause-reads_back : goal.returns-clause-reads_back
returns-clause-reads_back c = λ bytes small some few. bytes_of-hex_text bytes small (and_from _ _ (le-leb _ _ some) (le-leb _ _ few))

pub returns-clause-only : goal.returns-clause-only
returns-clause-only c = λ word bytes is. let parts = hex_text-bytes_of word bytes is in (parts.1, parts.2)

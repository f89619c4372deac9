-- The text of each line. Own format.
use Rattle.std.specs.Prelude.{ℕ, List, [], ◌∷◌, ◌++◌, codes, decimal}
use Rattle.std.specs.List.{flat_map}
use Rattle.wire_xdr.specs.Arms.{number_of}
use Rattle.rpc_msg.specs.Heads.{stat_case}
use Rattle.rpc_msg.specs.declared.reply.Denial.{Denial}
use Rattle.rpc_msg.specs.declared.reply.Denial.TheVariants as denials
use Rattle.nfs_compound.specs.OpNames.{op_name, cb_op_name}
use Rattle.wire_show.specs.declared.line.ShownLine.{ShownLine}
use Rattle.wire_show.specs.declared.line.ShownLine.TheVariants.{Record, Call, Accepted, Denied, Op, Callback, Unreadable, Unsupported, Illegal, Unread, Rest, Large, TooMuch}

abbrev pub denied_words : ℕ → Denial → List ℕ
denied_words xid (denials.Mismatch low high) = codes "reply " ++ decimal xid ++ codes " 1 mismatch"
denied_words xid (denials.Auth stat) = codes "reply " ++ decimal xid ++ codes " 1 denied " ++ decimal stat

-- a line without its newline
abbrev pub line_words : ShownLine → List ℕ
line_words (Record number len) = codes "record " ++ decimal number ++ codes " " ++ decimal len
line_words (Call xid prog vers proc flavor) =
    codes "call " ++ decimal xid ++ codes " " ++ decimal prog ++ codes " " ++ decimal vers ++ codes " " ++ decimal proc ++ codes " " ++ decimal flavor
line_words (Accepted xid stat) = codes "reply " ++ decimal xid ++ codes " 0 " ++ decimal (number_of stat_case stat)
line_words (Denied xid why) = denied_words xid why
line_words (Op place op) = codes "op " ++ decimal place ++ codes " " ++ op_name op
line_words (Callback place op) = codes "op " ++ decimal place ++ codes " " ++ cb_op_name op
line_words (Unreadable place) = codes "tail " ++ decimal place ++ codes " unreadable"
line_words (Unsupported place) = codes "tail " ++ decimal place ++ codes " unsupported"
line_words (Illegal place) = codes "tail " ++ decimal place ++ codes " illegal"
line_words (Unread at) = codes "unread " ++ decimal at
line_words (Rest count) = codes "rest " ++ decimal count
line_words (Large len) = codes "large " ++ decimal len
line_words TooMuch = codes "too much"

-- a line, with its newline
abbrev pub line_text : ShownLine → List ℕ
line_text line = line_words line ++ 10 ∷ []

-- lines one after the other
abbrev pub lines_text : List ShownLine → List ℕ
lines_text lines = flat_map line_text lines

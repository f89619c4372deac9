-- How a copy goes on at a server that is set up (RFC 7862 section 4): what is due goes out. A file that is open already
-- isn't opened again, and while an OPEN of it is awaited no other goes out.
use Rattle.std.specs.Prelude.{ℕ, ◌==◌, ◌||◌, ◌&&◌, is_some, not, Bool, true, false, List, [], ◌∷◌, Option, Some, None}
use Rattle.nfs_base.specs.declared.copy_spec.CopySpec.{CopySpec}
use Rattle.nfs_base.specs.declared.side.Side.{Side}
use Rattle.nfs_base.specs.declared.side.Side.TheVariants.{Source, Dest}
use Rattle.client_copies.specs.Copies.{due, side_of}
use Rattle.client_copies.specs.Steps.{asked_step, is_side}
use Rattle.client_copies.specs.Table.{copy_at}
use Rattle.client_copies.specs.declared.copy.ClientCopy.{ClientCopy}
use Rattle.client_copies.specs.declared.copy.Step.{Step}
use Rattle.client_copies.specs.declared.copy.Step.TheVariants as steps
use Rattle.client_copies.specs.declared.event.Event.TheVariants as events
use Rattle.client_site.specs.declared.site.OpenFile.{OpenFile}
use Rattle.client_site.specs.Sites.{file_at, is_number, up_at}
use Rattle.gss_ctx.specs.Seals.{Mic}
use Rattle.mount.specs.declared.calling.Under.TheVariants.{Root, Child}
use Rattle.client_steps.specs.Calling.{call_sent, create_sent}
use Rattle.client_steps.specs.Desks.{site_at, told_to}
use Rattle.client_steps.specs.Setting.{copy_call, last_call, notify_call, open_call, privilege_at}
use Rattle.client_steps.specs.declared.desk.Desk.{Desk}
use Rattle.client_steps.specs.declared.copy_steps.Openings.{Openings}
use Rattle.client_steps.specs.declared.setting.Setting.{Setting}

-- the copies by number, of which none has 0
abbrev pub all_copies : List ℕ
all_copies = 1 ∷ 2 ∷ 3 ∷ 4 ∷ 5 ∷ 6 ∷ 7 ∷ 8 ∷ 9 ∷ 10 ∷ 11 ∷ 12 ∷ 13 ∷ 14 ∷ 15 ∷ []

abbrev pub file_of : Side → CopySpec → ℕ
file_of Source spec = spec.src_file
file_of Dest spec = spec.dst_file

-- the step wants a file to be open
abbrev pub opens : Step → Bool
opens steps.OpenSource = true
opens steps.OpenDest = true
opens steps.OpenAgain = true
opens _ = false

abbrev pub copy_in : ℕ → Desk → Option ClientCopy
copy_in j d = copy_at j d.copies

abbrev pub file_on : Side → ℕ → Desk → Option OpenFile
file_on side file d = file_at file (site_at side d)

abbrev pub is_up : Side → Desk → Bool
is_up side d = is_some (up_at (site_at side d))

-- ---- OPENs that are awaited

abbrev pub step_opens : Side → ℕ → ClientCopy → Option Step → Bool
step_opens side file c None = false
step_opens side file c (Some step) = opens step && is_side side (side_of step) && (file_of side c.spec == file)

abbrev pub copy_opens : Side → ℕ → Option ClientCopy → Bool
copy_opens side file None = false
copy_opens side file (Some c) = step_opens side file c (asked_step c.stage)

-- a copy among these awaits an OPEN of this file
abbrev pub some_opens : Side → ℕ → List ℕ → Desk → Bool
some_opens side file [] d = false
some_opens side file (j ∷ js) d = copy_opens side file (copy_at j d.copies) || some_opens side file js d

-- the file that a queue's first work has an OPEN out for
abbrev pub opening_at : Side → Openings → Option ℕ
opening_at Source o = o.source
opening_at Dest o = o.dest

abbrev pub is_opening : Openings → Side → ℕ → Desk → Bool
is_opening o side file d = is_number (opening_at side o) file || some_opens side file all_copies d

-- ---- a file that is open already

abbrev pub opened_if : Bool → ℕ → Side → Desk → Desk
opened_if true j side d = told_to j (events.Opened side) d
opened_if false j side d = d

abbrev pub is_open : Step → ClientCopy → Desk → Bool
is_open step c d = opens step && is_some (file_at (file_of (side_of step) c.spec) (site_at (side_of step) d))

abbrev pub finds_open : ℕ → ClientCopy → Option Step → Desk → Desk
finds_open j c None d = d
finds_open j c (Some step) d = opened_if (is_open step c d) j (side_of step) d

abbrev pub copy_finds_open : ℕ → Option ClientCopy → Desk → Desk
copy_finds_open j None d = d
copy_finds_open j (Some c) d = finds_open j c (due c.stage) d

-- ---- the call of a step

abbrev pub allows : {M : Type 0} → Setting M → Mic → Side → ℕ → List ℕ → Desk → Bool × Desk
allows s mic side j secret d = create_sent mic side j (privilege_at s side secret) d

abbrev pub step_call : {M : Type 0} → Setting M → Mic → Step → ℕ → ClientCopy → Desk → Bool × Desk
step_call s mic steps.OpenSource j c d = call_sent mic Source j Root (open_call s.me c.spec.src_file d.source) d
step_call s mic steps.OpenAgain j c d = call_sent mic Source j Root (open_call s.me c.spec.src_file d.source) d
step_call s mic steps.OpenDest j c d = call_sent mic Dest j Root (open_call s.me c.spec.dst_file d.dest) d
step_call s mic steps.AllowSource j c d = allows s mic Source j c.secret d
step_call s mic steps.AllowDest j c d = allows s mic Dest j c.secret d
step_call s mic steps.Notify j c d = call_sent mic Source j (Child j) (notify_call s c d.source) d
step_call s mic steps.Copy j c d = call_sent mic Dest j (Child j) (copy_call s c d.dest) d
step_call s mic steps.Last j c d = call_sent mic Source j Root (last_call c) d

-- it goes out where the server is set up, and no OPEN of the file is awaited
abbrev pub may_ask : Openings → Step → ClientCopy → Desk → Bool
may_ask o step c d =
    is_up (side_of step) d && not (opens step && is_opening o (side_of step) (file_of (side_of step) c.spec) d)

abbrev pub asked_if : {M : Type 0} → Bool → Setting M → Mic → Step → ℕ → ClientCopy → Desk → Bool × Desk
asked_if true s mic step j c d = step_call s mic step j c d
asked_if false s mic step j c d = (false, d)

abbrev pub sent_if : Bool → ℕ → Desk → Desk
sent_if true j d = told_to j events.Sent d
sent_if false j d = d

abbrev pub told_sent : ℕ → Bool × Desk → Desk
told_sent j o = sent_if o.0 j o.1

abbrev pub asks_step : {M : Type 0} → Setting M → Mic → Openings → ℕ → ClientCopy → Option Step → Desk → Desk
asks_step s mic o j c None d = d
asks_step s mic o j c (Some step) d = told_sent j (asked_if (may_ask o step c d) s mic step j c d)

abbrev pub copy_asks : {M : Type 0} → Setting M → Mic → Openings → ℕ → Option ClientCopy → Desk → Desk
copy_asks s mic o j None d = d
copy_asks s mic o j (Some c) d = asks_step s mic o j c (due c.stage) d

-- ---- all copies by number

abbrev pub goes_asking : {M : Type 0} → Setting M → Mic → Openings → ℕ → Desk → Desk
goes_asking s mic o j d = copy_asks s mic o j (copy_at j d.copies) d

abbrev pub copy_goes_on : {M : Type 0} → Setting M → Mic → Openings → ℕ → Desk → Desk
copy_goes_on s mic o j d = goes_asking s mic o j (copy_finds_open j (copy_at j d.copies) d)

abbrev pub copies_go_on : {M : Type 0} → Setting M → Mic → Openings → List ℕ → Desk → Desk
copies_go_on s mic o [] d = d
copies_go_on s mic o (j ∷ js) d = copies_go_on s mic o js (copy_goes_on s mic o j d)

-- ---- what a server is waited for by

abbrev pub step_needs : Side → Option Step → Bool
step_needs side None = false
step_needs side (Some step) = is_side side (side_of step)

abbrev pub copy_needs : Side → Option ClientCopy → Bool
copy_needs side None = false
copy_needs side (Some c) = step_needs side (due c.stage)

abbrev pub some_needs : Side → List ℕ → Desk → Bool
some_needs side [] d = false
some_needs side (j ∷ js) d = copy_needs side (copy_at j d.copies) || some_needs side js d

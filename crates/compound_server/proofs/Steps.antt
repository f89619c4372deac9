-- An operation in code: what it said behind the results, and what it leaves.
use Rattle.std.proofs.Common.{rules, ◌≡◌, ℕ, Bool, true, false, List, [], ◌∷◌, ◌++◌, refl, sym, ap, subst, ◌∙◌}
use Rattle.std.specs.Prelude.{◌==◌, Option, Some, None, if◌then◌else◌}
use Rattle.std.proofs.lemmas.Bool.{eqb-true}
use Rattle.copy_ops.specs.Forms.{copy_res, copy_answer}
use Rattle.file_ops.specs.Results.{file_res}
use Rattle.file_ops.specs.declared.args.FileArg.{FileArg}
use Rattle.file_server.specs.Answering.{Says, IsNew}
use Rattle.file_server.specs.declared.extension.Ask.TheVariants.{Operation}
use Rattle.file_server.specs.declared.extension.Caller.{Caller}
use Rattle.file_server.specs.declared.extension.Gate.{Gate}
use Rattle.file_server.specs.declared.extension.Gate.TheVariants as gate
use Rattle.file_server.specs.Machine.{Answered, Going, Machine, shown}
use Rattle.file_server.specs.declared.held.Held.{Held}
use Rattle.file_server.specs.declared.progress.Progress.{Progress}
use Rattle.nfs_base.specs.declared.status.Status.{Status}
use Rattle.nfs_base.specs.Forms.{status, answer}
use Rattle.nfs_compound.specs.declared.op.Op.{Op}
use Rattle.nfs_compound.specs.declared.res.Res.{Res}
use Rattle.nfs_compound.specs.Ops.{op_number}
use Rattle.nfs_compound.specs.Results.{outcome, res_body, res_status}
use Rattle.server_volume.specs.declared.used.Used.{Used}
use Rattle.server_volume.specs.Choices.{Choice}
use Rattle.server_volume.specs.MomentLaws.{counted_none}
use Rattle.server_volume.specs.Moments.{Counted}
use Rattle.server_volume.specs.Store.{Seat}
use Rattle.sess_slots.specs.Table.{SessionTable}
use Rattle.wire_xdr.specs.Words.{word_bytes}
use Rattle.compound_server.specs.Course.{Course, Performed, Seen, Service, seen, of_file, of_copy}
use Rattle.compound_server.specs.Performing.{asks_later, done, file_done, gate_refusal, gated, op_refusal, perform, placed, refusal_by, refuse, unless_refused, with_state}
use Rattle.compound_server.specs.Refusals.{Refusing, refusings, refused_among, refused, place_refusal}
use Rattle.compound_server.specs.Serves.{Served, told_of}
use Rattle.compound_server.specs.State.{begun}

-- no call was made
pub ran_still : {told : Type 0} {seat : Seat} {used more : List Used} → more ≡ used → Counted told seat seat used more
ran_still {told} {seat} {used} {more} same = subst (λ (us : List Used). Counted told seat seat used us) (sym same) (counted_none told seat used)

-- nor anything else done to the volume
pub ran_kept : {told V : Type 0} (seat : V → Seat) {old new : V} {used more : List Used} → new ≡ old → more ≡ used → Counted told (seat old) (seat new) used more
ran_kept {told} seat {old} {new} {used} {more} same still = subst (λ v. Counted told (seat old) (seat v) used more) (sym same) (ran_still still)

-- ---- refusals

-- a listed result is spelled as its operation's number and the status, and has that status
record IsPlain (r : Refusing) : Type 0 where
  spelled : (s : Status) → outcome.spell (r.res s) ≡ word_bytes r.op ++ word_bytes s.number
  status_is : (s : Status) → res_status (r.res s) ≡ s

abbrev ArePlain : List Refusing → Type 0
ArePlain [] = Unit {0}
ArePlain (r ∷ rs) = IsPlain r × ArePlain rs

all_plain : ArePlain refusings
unfolding outcome res_body file_res copy_res copy_answer answer status word_bytes
all_plain = search rules

chosen_spelled : (test : Bool) (x y : Res) (text : List ℕ) → (test ≡ true → outcome.spell x ≡ text) → (test ≡ false → outcome.spell y ≡ text)
    → outcome.spell (if test then x else y) ≡ text
chosen_spelled true x y text first second = first refl
chosen_spelled false x y text first second = second refl

among_spelled : (rs : List Refusing) → ArePlain rs → (op : ℕ) (s : Status) → outcome.spell (refused_among rs op s) ≡ word_bytes op ++ word_bytes s.number
unfolding outcome res_body status word_bytes
among_spelled [] plain op s = refl
among_spelled (r ∷ rs) plain op s =
    chosen_spelled (op == r.op) (r.res s) (refused_among rs op s) (word_bytes op ++ word_bytes s.number)
    (λ e. plain.0.spelled s ∙ ap (λ (n : ℕ). word_bytes n ++ word_bytes s.number) (sym (eqb-true op r.op e)))
    (λ e. among_spelled rs plain.1 op s)

pub refused_spelled : (op : ℕ) (s : Status) → outcome.spell (refused op s) ≡ word_bytes op ++ word_bytes s.number
unfolding refused
refused_spelled op s = among_spelled refusings all_plain op s

chosen_status : (test : Bool) (x y : Res) (s : Status) → res_status x ≡ s → res_status y ≡ s → res_status (if test then x else y) ≡ s
chosen_status true x y s first second = first
chosen_status false x y s first second = second

among_status : (rs : List Refusing) → ArePlain rs → (op : ℕ) (s : Status) → res_status (refused_among rs op s) ≡ s
among_status [] plain op s = refl
among_status (r ∷ rs) plain op s =
    chosen_status (op == r.op) (r.res s) (refused_among rs op s) s (plain.0.status_is s) (among_status rs plain.1 op s)

pub refused_status : (op : ℕ) (s : Status) → res_status (refused op s) ≡ s
unfolding refused
refused_status op s = among_status refusings all_plain op s

-- ---- an answer is its model's

abbrev pub seen_as : {X : Type 0} → Course X → List ℕ → ℕ → Seen X
seen_as c bytes status = record { course = c; bytes = bytes; status = status }

abbrev pub course_at : {X : Type 0} → Machine X → SessionTable → Progress → Course X
course_at m sessions p = record { going = record { machine = m; held = p.held; used = p.used; has_read = p.has_read }; sessions = sessions }

abbrev course_of_parts : {X : Type 0} → Machine X → SessionTable → Held → List Used → Bool → Course X
course_of_parts m sessions held used has_read =
    record { going = record { machine = m; held = held; used = used; has_read = has_read }; sessions = sessions }

course_said : {X : Type 0} (m : Machine X) (sessions : SessionTable) (q r : Progress) (text : List ℕ) → Says q text r
    → course_at m sessions q ≡ course_at m sessions r
course_said m sessions q r text says =
    ap (λ (h : Held). course_of_parts m sessions h q.used q.has_read) (sym says.held)
    ∙ ap (λ (us : List Used). course_of_parts m sessions r.held us q.has_read) (sym says.used)
    ∙ ap (λ (b : Bool). course_of_parts m sessions r.held r.used b) (sym says.has_read)

-- what was said is the result's spelling
pub performs_said : {X : Type 0} (m : Machine X) (sessions : SessionTable) (res : Res) (q r : Progress) (text : List ℕ) (s : Status) → Says q text r
    → outcome.spell res ≡ text → res_status res ≡ s
    → seen (record { course = course_at m sessions q; res = res }) q.page.bytes ≡ seen_as (course_at m sessions r) r.page.bytes s.number
performs_said m sessions res q r text s says spelled is =
    ap (λ c. seen_as c (q.page.bytes ++ outcome.spell res) (res_status res).number) (course_said m sessions q r text says)
    ∙ ap (λ (bytes : List ℕ). seen_as (course_at m sessions r) (q.page.bytes ++ bytes) (res_status res).number) spelled
    ∙ ap (λ (bytes : List ℕ). seen_as (course_at m sessions r) bytes (res_status res).number) (sym says.page.is)
    ∙ ap (λ (t : Status). seen_as (course_at m sessions r) r.page.bytes t.number) is

-- a status alone was said
pub performs_refused : {X : Type 0} (m : Machine X) (sessions : SessionTable) (op : ℕ) (told said answered : Status) (q r : Progress)
    → Says q (word_bytes op ++ word_bytes said.number) r → told ≡ said → answered ≡ said
    → seen (record { course = course_at m sessions q; res = refused op told }) q.page.bytes ≡ seen_as (course_at m sessions r) r.page.bytes answered.number
performs_refused m sessions op told said answered q r says is same =
    ap (λ (s : Status). seen (record { course = course_at m sessions q; res = refused op s }) q.page.bytes) is
    ∙ performs_said m sessions (refused op said) q r (word_bytes op ++ word_bytes said.number) said says (refused_spelled op said) (refused_status op said)
    ∙ ap (λ (s : Status). seen_as (course_at m sessions r) r.page.bytes s.number) (sym same)

-- ---- an operation is refused by its place or by the server's extension, or done

abbrev refused_or_done : {X C : Type 0} → Option Status → Service X C → Choice → Caller → Option C → (next : Option ℕ) → Op → Course X → Performed X
refused_or_done (Some told) s choice caller carry next op c = refuse (op_number op) told c
refused_or_done None s choice caller carry next op c = done s choice caller carry next op c

unless_by : {X C : Type 0} (said : Gate) (s : Service X C) (choice : Choice) (caller : Caller) (carry : Option C) (next : Option ℕ) (op : Op) (c : Course X)
    → unless_refused said s choice caller carry next op c ≡ refused_or_done (gate_refusal said) s choice caller carry next op c
unless_by (gate.Refuse told) s choice caller carry next op c = refl
unless_by gate.Serve s choice caller carry next op c = refl
unless_by gate.Usual s choice caller carry next op c = refl

gated_by : {X C : Type 0} (later : Bool) (s : Service X C) (choice : Choice) (caller : Caller) (carry : Option C) (next : Option ℕ) (op : Op) (c : Course X)
    → (s.gate c.going.machine.extra caller carry (Operation (op_number op))).0 ≡ c.going.machine.extra
    → gated later s choice caller carry next op c
    ≡ refused_or_done (refusal_by None later (s.gate c.going.machine.extra caller carry (Operation (op_number op))).1) s choice caller carry next op c
gated_by true s choice caller carry next op c still = refl
gated_by false s choice caller carry next op c still =
    let said = s.gate c.going.machine.extra caller carry (Operation (op_number op)) in
    ap (λ x. unless_refused said.1 s choice caller carry next op (with_state x c)) still ∙ unless_by said.1 s choice caller carry next op c

placed_by : {X C : Type 0} (place : Option Status) (s : Service X C) (choice : Choice) (caller : Caller) (carry : Option C) (next : Option ℕ) (op : Op) (c : Course X)
    → (s.gate c.going.machine.extra caller carry (Operation (op_number op))).0 ≡ c.going.machine.extra
    → placed place s choice caller carry next op c
    ≡ refused_or_done (refusal_by place (asks_later (op_number op)) (s.gate c.going.machine.extra caller carry (Operation (op_number op))).1) s choice caller carry next op c
placed_by (Some told) s choice caller carry next op c still = refl
placed_by None s choice caller carry next op c still = gated_by (asks_later (op_number op)) s choice caller carry next op c still

performs_by : {X C : Type 0} (s : Service X C) (choice : Choice) (caller : Caller) (carry : Option C) (next : Option ℕ) (op : Op) (c : Course X) (n : ℕ) (told : Option Status)
    → ((k : ℕ) → (s.gate c.going.machine.extra caller carry (Operation k)).0 ≡ c.going.machine.extra)
    → n ≡ op_number op → told ≡ op_refusal s caller carry n c.going.machine.extra
    → perform s choice caller carry next op c ≡ refused_or_done told s choice caller carry next op c
unfolding perform
performs_by s choice caller carry next op c n told still is says =
    placed_by (place_refusal (op_number op)) s choice caller carry next op c (still (op_number op))
    ∙ ap (λ (r : Option Status). refused_or_done r s choice caller carry next op c) (sym (says ∙ ap (λ (k : ℕ). op_refusal s caller carry k c.going.machine.extra) is))

pub perform_refuses : {X C : Type 0} (s : Service X C) (choice : Choice) (caller : Caller) (carry : Option C) (next : Option ℕ) (op : Op) (c : Course X) (n : ℕ) (told : Status)
    → ((k : ℕ) → (s.gate c.going.machine.extra caller carry (Operation k)).0 ≡ c.going.machine.extra)
    → n ≡ op_number op → Some told ≡ op_refusal s caller carry n c.going.machine.extra
    → perform s choice caller carry next op c ≡ refuse n told c
perform_refuses s choice caller carry next op c n told still is says =
    performs_by s choice caller carry next op c n (Some told) still is says ∙ ap (λ (k : ℕ). refuse k told c) (sym is)

pub perform_done : {X C : Type 0} (s : Service X C) (choice : Choice) (caller : Caller) (carry : Option C) (next : Option ℕ) {op known : Op} (c : Course X) (n : ℕ)
    → ((k : ℕ) → (s.gate c.going.machine.extra caller carry (Operation k)).0 ≡ c.going.machine.extra)
    → n ≡ op_number op → None ≡ op_refusal s caller carry n c.going.machine.extra → op ≡ known
    → perform s choice caller carry next op c ≡ done s choice caller carry next known c
perform_done s choice caller carry next {op} {known} c n still is says known_is =
    performs_by s choice caller carry next op c n None still is says ∙ ap (λ (o : Op). done s choice caller carry next o c) known_is

-- an operation on files, beside the clients
pub performs_file : {X : Type 0} (sessions : SessionTable) (a : Answered X) (before : List ℕ) (g : Going X) (after : List ℕ) (number : ℕ)
    → shown a before ≡ record { going = g; bytes = after; status = number }
    → seen (of_file sessions a) before ≡ record { course = record { going = g; sessions = sessions }; bytes = after; status = number }
unfolding outcome res_body
performs_file sessions a before g after number e =
    ap (λ s. seen_as (record { going = s.going; sessions = sessions }) s.bytes s.status) e

-- the same, by what the operation is
pub performs_known : {X C : Type 0} (s : Service X C) (choice : Choice) (caller : Caller) (carry : Option C) (next : Option ℕ) {arg known : FileArg} (c : Course X) (before : List ℕ) (a : Answered X) (g : Going X) (after : List ℕ) (number : ℕ)
    → arg ≡ known → shown a before ≡ record { going = g; bytes = after; status = number } → file_done s choice caller carry next known c ≡ of_file c.sessions a
    → seen (file_done s choice caller carry next arg c) before ≡ record { course = record { going = g; sessions = c.sessions }; bytes = after; status = number }
performs_known s choice caller carry next {arg} {known} c before a g after number is e done =
    ap (λ (f : FileArg). seen (file_done s choice caller carry next f c) before) is ∙ ap (λ p. seen p before) done
    ∙ performs_file c.sessions a before g after number e

-- an operation that doesn't come there is refused
pub refuses_known : {X C : Type 0} (s : Service X C) (choice : Choice) (caller : Caller) (carry : Option C) (next : Option ℕ) {arg known : FileArg} (m : Machine X) (sessions : SessionTable) (q : Progress) {r : Progress} (op : ℕ) (said : Status) {answered : Status}
    → arg ≡ known → Says q (word_bytes op ++ word_bytes said.number) r → answered ≡ said
    → file_done s choice caller carry next known (course_at m sessions q) ≡ refuse op said (course_at m sessions q)
    → seen (file_done s choice caller carry next arg (course_at m sessions q)) q.page.bytes ≡ seen_as (course_at m sessions r) r.page.bytes answered.number
refuses_known s choice caller carry next {arg} {known} m sessions q {r} op said {answered} is says same done =
    ap (λ (f : FileArg). seen (file_done s choice caller carry next f (course_at m sessions q)) q.page.bytes) is ∙ ap (λ p. seen p q.page.bytes) done
    ∙ performs_refused m sessions op said said answered q r says refl same

-- an operation of the server's own
pub performs_own : {X : Type 0} (sessions : SessionTable) (a : Served X) (before : List ℕ) (g : Going X) (after : List ℕ) (number : ℕ)
    → told_of a before ≡ record { going = g; bytes = after; status = number }
    → seen (of_copy sessions a) before ≡ record { course = record { going = g; sessions = sessions }; bytes = after; status = number }
unfolding outcome res_body
performs_own sessions a before g after number e =
    ap (λ s. seen_as (record { going = s.going; sessions = sessions }) s.bytes s.status) e

-- no operation was done yet
pub begun_as : {X : Type 0} (m : Machine X) (sessions : SessionTable) (p : Progress) → IsNew p
    → begun (record { machine = m; sessions = sessions }) ≡ course_at m sessions p
begun_as m sessions p new =
    ap (λ (h : Held). course_of_parts m sessions h [] false) (sym new.held)
    ∙ ap (λ (us : List Used). course_of_parts m sessions p.held us false) (sym new.used)
    ∙ ap (λ (b : Bool). course_of_parts m sessions p.held p.used b) (sym new.has_read)

-- The steps of a destination in code are those of its model.
use Rattle.std.proofs.Common.{◌≡◌, ℕ, List, [], Bool, true, false, Option, None, ap, refl, sym, subst, ◌∙◌}
use Rattle.std.proofs.lemmas.Bool.{false≢true}
use Rattle.std.specs.Prelude.{max}
use Rattle.compound_server.specs.declared.server.Server.{Server}
use Rattle.dest_back.specs.declared.hearing.Hearing.{Hearing}
use Rattle.dest_jobs.specs.declared.carried.Carried.{Carried}
use Rattle.dest_steps.specs.Copier.{Codes}
use Rattle.dest_steps.specs.Failing.{failing, link_failed}
use Rattle.dest_steps.specs.Hearing.{heard_client, hearing_done}
use Rattle.dest_steps.specs.Landing.{Done, doing_of}
use Rattle.dest_steps.specs.Replying.{IsHeard, effect_done}
use Rattle.dest_steps.specs.Ticking.{again, with_again}
use Rattle.dest_steps.specs.Turning.{IsTurnOf}
use Rattle.dest_steps.specs.Working.{turn_made}
use Rattle.dest_steps.specs.declared.copier.Copier.{Copier}
use Rattle.dest_steps.specs.declared.failing.Failing.{Failing}
use Rattle.dest_steps.specs.declared.replying.Heard.{Heard}
use Rattle.dest_steps.specs.declared.ticking.Again.{Again}
use Rattle.dest_steps.specs.declared.turning.Turn.{Turn}
use Rattle.dest_steps.specs.declared.turning.Turn.TheVariants as turns
use Rattle.file_server.specs.declared.files.Files.{Files}
use Rattle.gss_ctx.specs.Seals.{Mic}
use Rattle.nfs_base.specs.declared.seal.Seal.{Seal}
use Rattle.outbox.specs.declared.note.Note.{Note}
use Rattle.outbox.specs.declared.outgoing.Outbox.{Outbox}
use Rattle.outbox.specs.declared.outgoing.Outgoing.{Outgoing}
use Rattle.server_volume.specs.Choices.{Agrees, Choice}
use Rattle.server_volume.specs.Moments.{Counted}
use Rattle.server_volume.specs.Store.{Seat, store_of}
use Rattle.server_volume.specs.declared.used.Used.{Used}
use Rattle.session_server.specs.Host.{host_of, stepped_of}
use Rattle.session_server.specs.declared.host.Host.{Host}
use Rattle.streams.specs.declared.draws.Drawn.{Drawn}
use Rattle.dest_core.specs.Judging.{silent, tells}
use Rattle.dest_core.specs.Stepping.{DestState, DestStep, IsReply, IsWork, answer_step, answer_taken, around_in, copier_in, effect_taken, failure_step, failure_taken, finished, finished_by, is_undrawn, put_copier, put_extra, reply_step, second_in, tick_step, turn_step, turn_taken, with_copier, without_lapsed}
use Rattle.dest_core.specs.declared.destination.Destination.{Destination}
use Rattle.dest_core.proofs.Hosts.{done_in, with_files, with_server}

-- ---- what every step does

pub finish_told : {D M : Type 0} (size : D → ℕ) (h : Host D (Destination M) Carried) (extra : Destination M) (notes : List Note)
    (sent : List Outgoing) (accepted : Option Seal) (used : List Used) (undrawn : Bool)
    → extra ≡ silent h.server.files.extra → notes ≡ tells h.server.files.extra
    → stepped_of size (with_server (put_extra extra h.server) h) (record { sent = sent; notes = notes; accepted = accepted; used = used; undrawn = undrawn })
    ≡ finished sent accepted used undrawn (host_of size h)
finish_told size h extra notes sent accepted used undrawn quiet told =
    ap (λ x. stepped_of size (with_server (put_extra x h.server) h) (record { sent = sent; notes = notes; accepted = accepted; used = used; undrawn = undrawn })) quiet
    ∙ ap (λ (ns : List Note). stepped_of size (with_server (put_extra (silent h.server.files.extra) h.server) h) (record { sent = sent; notes = ns; accepted = accepted; used = used; undrawn = undrawn })) told

-- the calls on the volume are those of its part in the middle
pub ran_within : {told V : Type 0} (seat : V → Seat) (old before after new : V) (none used more : List Used) → before ≡ old → new ≡ after → none ≡ [] → more ≡ used
    → Counted told (seat before) (seat after) none used → Counted told (seat old) (seat new) [] more
ran_within {told} seat old before after new none used more first last empty same ran =
    subst (λ v. Counted told (seat v) (seat new) [] more) first
    (subst (λ v. Counted told (seat before) (seat v) [] more) (sym last)
    (subst (λ (us : List Used). Counted told (seat before) (seat after) us more) empty
    (subst (λ (us : List Used). Counted told (seat before) (seat after) none us) (sym same) ran)))

-- ---- a worker's turn

pub turn_told : {D M : Type 0} (size : D → ℕ) (choice : Choice) (place now : ℕ) (turn : Turn) (old came : Host D (Destination M) Carried)
    (files : Files D (Destination M)) (sent : List Outgoing) (none used : List Used) (undrawn : Bool) (t : DestStep M)
    → host_of size came ≡ without_lapsed (second_in now (host_of size old))
    → files.opens ≡ came.server.files.opens
    → files.extra ≡ record came.server.files.extra { copier = files.extra.copier }
    → none ≡ []
    → turn_made choice place turn (doing_of came.server.files.extra.copier (store_of size came.server.files.volume) none)
    ≡ record { doing = doing_of files.extra.copier (store_of size files.volume) used; sent = sent }
    → undrawn ≡ is_undrawn turn
    → t ≡ finished sent None used undrawn (host_of size (with_server (with_files files came.server) came))
    → t ≡ turn_step choice place now turn (host_of size old)
turn_told size choice place now turn old came files sent none used undrawn t second opens rest empty does drawn is =
    is
    ∙ ap (λ (u : Bool). finished sent None used u (host_of size (with_server (with_files files came.server) came))) drawn
    ∙ ap (λ s. finished sent None used (is_undrawn turn) s) (done_in size came files used opens rest)
    ∙ ap (λ (d : Done). finished_by d None (is_undrawn turn) (host_of size came)) (sym does)
    ∙ ap (λ (us : List Used). finished_by (turn_made choice place turn (doing_of came.server.files.extra.copier (store_of size came.server.files.volume) us)) None (is_undrawn turn) (host_of size came)) empty
    ∙ ap (λ s. turn_taken choice place turn s) second

pub work_told : {D M W : Type 0} (gives : W → Drawn → W → Type 0) (started : List ℕ → List ℕ → Option (List ℕ)) (codes : Codes) (size : D → ℕ)
    (place now second : ℕ) (turn : Turn) (old new : Host D (Destination M) Carried) (server : Server D (Destination M)) (before after : W) (out : Outbox)
    → second ≡ max old.second now
    → server ≡ put_copier server.files.extra.copier old.server
    → IsTurnOf gives started codes (around_in second old.server) place old.server.files.extra.copier before after (turn, server.files.extra.copier)
    → ((choice : Choice) → Agrees choice out.used → stepped_of size new out ≡ turn_step choice place now turn (host_of size (with_server server old)))
    → IsWork gives started codes place now (host_of size old) before after (stepped_of size new out)
work_told gives started codes size place now second turn old new server before after out greatest same due is = record {
  turn = turn;
  copier = server.files.extra.copier;
  due = subst (λ (n : ℕ). IsTurnOf gives started codes (around_in n old.server) place old.server.files.extra.copier before after (turn, server.files.extra.copier)) greatest due;
  is = λ choice agrees. is choice agrees ∙ ap (λ s. turn_step choice place now turn (host_of size (with_server s old))) same;
}

pub undrawn_is : (turn : Turn) → is_undrawn turn ≡ true → turn ≡ turns.Undrawn
undrawn_is turns.Undrawn is = refl
undrawn_is turns.Rest is = absurd (false≢true is)
undrawn_is (turns.Sent call) is = absurd (false≢true is)
undrawn_is (turns.Stops job cause told) is = absurd (false≢true is)
undrawn_is (turns.Lands told) is = absurd (false≢true is)
undrawn_is (turns.Commits job told) is = absurd (false≢true is)

-- ---- a record of the source

pub effect_told : {D M : Type 0} (size : D → ℕ) (choice : Choice) (place now : ℕ) (heard : Heard) (old ticked : Host D (Destination M) Carried)
    (files : Files D (Destination M)) (sent : List Outgoing) (none used : List Used) (t : DestStep M)
    → host_of size ticked ≡ second_in now (host_of size old)
    → files.opens ≡ ticked.server.files.opens
    → files.extra ≡ record ticked.server.files.extra { copier = files.extra.copier }
    → none ≡ []
    → effect_done choice place heard.effect (doing_of ticked.server.files.extra.copier (store_of size ticked.server.files.volume) none)
    ≡ record { doing = doing_of files.extra.copier (store_of size files.volume) used; sent = sent }
    → t ≡ finished sent heard.accepted used false (host_of size (with_server (with_files files ticked.server) ticked))
    → t ≡ reply_step choice place now heard (host_of size old)
effect_told size choice place now heard old ticked files sent none used t second opens rest empty does is =
    is
    ∙ ap (λ s. finished sent heard.accepted used false s) (done_in size ticked files used opens rest)
    ∙ ap (λ (d : Done). finished_by d heard.accepted false (host_of size ticked)) (sym does)
    ∙ ap (λ (us : List Used). finished_by (effect_done choice place heard.effect (doing_of ticked.server.files.extra.copier (store_of size ticked.server.files.volume) us)) heard.accepted false (host_of size ticked)) empty
    ∙ ap (λ s. effect_taken choice place heard s) second

pub reply_told : {D M : Type 0} (codes : Codes) (finish : List ℕ → List ℕ → Option (List ℕ)) (size : D → ℕ) (place : ℕ) (message : List ℕ) (now second : ℕ)
    (heard : Heard) (old new : Host D (Destination M) Carried) (server : Server D (Destination M)) (out : Outbox)
    → second ≡ max old.second now
    → server ≡ put_copier server.files.extra.copier old.server
    → IsHeard codes finish (around_in second old.server) place message old.server.files.extra.copier heard server.files.extra.copier
    → ((choice : Choice) → Agrees choice out.used → stepped_of size new out ≡ reply_step choice place now heard (host_of size (with_server server old)))
    → IsReply codes finish place message now (host_of size old) (stepped_of size new out)
reply_told codes finish size place message now second heard old new server out greatest same told is = record {
  heard = heard;
  copier = server.files.extra.copier;
  is_heard = subst (λ (n : ℕ). IsHeard codes finish (around_in n old.server) place message old.server.files.extra.copier heard server.files.extra.copier) greatest told;
  is = λ choice agrees. is choice agrees ∙ ap (λ s. reply_step choice place now heard (host_of size (with_server s old))) same;
}

-- ---- a worker's link failed

pub failure_told : {D M : Type 0} (codes : Codes) (size : D → ℕ) (place : ℕ) (told : Failing) (old ticked : Host D (Destination M) Carried) (copier : Copier)
    (sent : List Outgoing) (used : List Used) (t : DestStep M)
    → host_of size ticked ≡ second_in old.second (host_of size old)
    → used ≡ []
    → copier ≡ (link_failed place told ticked.server.files.extra.copier).0
    → sent ≡ (link_failed place told ticked.server.files.extra.copier).1
    → told ≡ failing codes (around_in old.second old.server) place old.server.files.extra.copier
    → t ≡ finished sent None used false (host_of size (with_server (put_copier copier ticked.server) ticked))
    → t ≡ failure_step codes place (host_of size old)
failure_told codes size place told old ticked copier sent used t second none after out is_told is =
    let s = host_of size ticked in
    is
    ∙ ap (λ (us : List Used). finished sent None us false (with_copier copier s)) none
    ∙ ap (λ (x : Copier). finished sent None [] false (with_copier x s)) after
    ∙ ap (λ (o : List Outgoing). finished o None [] false (with_copier (link_failed place told (copier_in s)).0 s)) out
    ∙ ap (λ (f : Failing). failure_taken (link_failed place f (copier_in s)) s) is_told
    ∙ ap (λ r. failure_taken (link_failed place (failing codes (around_in old.second old.server) place old.server.files.extra.copier) (copier_in r)) r) second

-- ---- a second that comes by itself

pub tick_told : {D M : Type 0} (codes : Codes) (size : D → ℕ) (now second : ℕ) (a : Again) (old came : Host D (Destination M) Carried)
    (copier : Copier) (sent : List Outgoing) (used : List Used) (t : DestStep M)
    → second ≡ max old.second now
    → host_of size came ≡ without_lapsed (second_in now (host_of size old))
    → used ≡ []
    → copier ≡ with_again a came.server.files.extra.copier
    → sent ≡ a.sent
    → a ≡ again codes (around_in second old.server) old.server.files.extra.copier
    → t ≡ finished sent None used false (host_of size (with_server (put_copier copier came.server) came))
    → t ≡ tick_step codes now (host_of size old)
tick_told codes size now second a old came copier sent used t greatest comes none after out told is =
    let s = host_of size came in
    let due : ℕ → Again = λ n. again codes (around_in n old.server) old.server.files.extra.copier in
    let taken : Again → DestState _ → DestStep _ = λ b r. finished b.sent None [] false (with_copier (with_again b (copier_in r)) r) in
    is
    ∙ ap (λ (us : List Used). finished sent None us false (with_copier copier s)) none
    ∙ ap (λ (x : Copier). finished sent None [] false (with_copier x s)) after
    ∙ ap (λ (o : List Outgoing). finished o None [] false (with_copier (with_again a (copier_in s)) s)) out
    ∙ ap (λ (b : Again). taken b s) (told ∙ ap due greatest)
    ∙ ap (λ r. taken (due (max old.second now)) r) comes

-- ---- a client's reply

pub answer_told : {D M : Type 0} (mic : Mic) (size : D → ℕ) (message : List ℕ) (now boot : ℕ) (hearing : Hearing) (old ticked : Host D (Destination M) Carried)
    (copier : Copier) (accepted : Option Seal) (sent : List Outgoing) (used : List Used) (t : DestStep M)
    → boot ≡ old.server.files.volume.volume.boot
    → host_of size ticked ≡ second_in now (host_of size old)
    → sent ≡ []
    → used ≡ []
    → copier ≡ (hearing_done boot hearing ticked.server.files.extra.copier).0
    → accepted ≡ (hearing_done boot hearing ticked.server.files.extra.copier).1
    → hearing ≡ heard_client mic boot message old.server.files.extra.copier
    → t ≡ finished sent accepted used false (host_of size (with_server (put_copier copier ticked.server) ticked))
    → t ≡ answer_step mic message now (host_of size old)
answer_told mic size message now boot hearing old ticked copier accepted sent used t opened second nothing none after seal heard is =
    let s = host_of size ticked in
    is
    ∙ ap (λ (o : List Outgoing). finished o accepted used false (with_copier copier s)) nothing
    ∙ ap (λ (us : List Used). finished [] accepted us false (with_copier copier s)) none
    ∙ ap (λ (x : Copier). finished [] accepted [] false (with_copier x s)) after
    ∙ ap (λ (a : Option Seal). finished [] a [] false (with_copier (hearing_done boot hearing (copier_in s)).0 s)) seal
    ∙ ap (λ (h : Hearing). answer_taken (hearing_done boot h (copier_in s)) s) heard
    ∙ ap (λ (b : ℕ). answer_taken (hearing_done b (heard_client mic b message old.server.files.extra.copier) (copier_in s)) s) opened
    ∙ ap (λ r. answer_taken (hearing_done old.server.files.volume.volume.boot (heard_client mic old.server.files.volume.volume.boot message old.server.files.extra.copier) (copier_in r)) r) second

-- A record on a connection, as the source sees it: jobs get seats, and what goes out is nothing to the source.
use Rattle.std.proofs.Common.{◌≡◌, ◌∙◌, inl, inr, ℕ, zero, suc, ◌+◌, ◌≤◌, Bool, true, false, List, [], ◌∷◌, ◌++◌, Option, Some, None, refl, sym, ap, subst, arith}
use Rattle.std.proofs.lemmas.List.{append-nil}
use Rattle.std.specs.Prelude.{map, max, slice_index_or}
use Rattle.std.specs.List.{AllByRecursion}
use Rattle.caller_laws.specs.Good.{Identity}
use Rattle.caller_laws.specs.Moves.{Forgets, Rests}
use Rattle.caller_laws.specs.OneStep.Besides.{AreBesides, IsElsewhere}
use Rattle.caller_laws.specs.OneStep.Order.{AreLosing}
use Rattle.caller_laws.specs.OneStep.Runs.{IsRun, MountStep, whole}
use Rattle.caller_laws.specs.View.{Above, caller_of}
use Rattle.dest_back.specs.Callbacks.{CallbackTable, posted}
use Rattle.dest_back.specs.Compounds.{is_done}
use Rattle.dest_back.specs.Hearing as hearings
use Rattle.dest_back.specs.declared.callbacks.Awaiting.{Awaiting}
use Rattle.dest_back.specs.declared.callbacks.Post.{Post}
use Rattle.dest_back.specs.declared.hearing.Hearing.{Hearing}
use Rattle.dest_back.specs.declared.hearing.Hearing.TheVariants as hears
use Rattle.dest_core.specs.Core.{dest_rules}
use Rattle.dest_core.specs.Stepping.{DestState, DestStep, IsRecord, IsRecordBy, answer_step, copier_in}
use Rattle.dest_core.specs.declared.destination.Destination.{Destination}
use Rattle.dest_jobs.specs.declared.carried.Carried.{Carried}
use Rattle.dest_laws.proofs.calls.Callbacks.{posts_with}
use Rattle.dest_laws.proofs.calls.Wholes.{Plain, counting, stays_ready, stays_seen}
use Rattle.dest_laws.specs.Calls.Fits.{MovesAreFit, SendsAreFit}
use Rattle.dest_laws.specs.Calls.Seating.{Seating, Seats, SeatsAlong, seats_forgotten, seats_posted}
use Rattle.dest_laws.specs.Calls.Settled.{AreClients, IsClientsCall, IsClientsPost, IsSettledAs}
use Rattle.dest_laws.specs.Calls.Steps.{IsSeenPlain, above_of, mount_of}
use Rattle.dest_laws.specs.View.Steps.{part_by}
use Rattle.dest_laws.specs.View.View.{made_in, post_purpose}
use Rattle.dest_steps.specs.Copier.{last_xid}
use Rattle.dest_steps.specs.Hearing as dest_hearings
use Rattle.dest_steps.specs.declared.copier.Copier.{Copier}
use Rattle.dest_tasks.specs.Posts as posts
use Rattle.dest_tasks.specs.declared.post.Post as workers
use Rattle.dest_tasks.specs.declared.seats.TheConstants.{SEATS}
use Rattle.dest_work.specs.declared.work.Work.{Work}
use Rattle.gss_ctx.specs.Replies.{checked_of}
use Rattle.gss_ctx.specs.Seals.{Mic}
use Rattle.gss_ctx.specs.declared.caller.Checked.{Checked}
use Rattle.gss_ctx.specs.declared.caller.Checked.TheVariants as checked
use Rattle.gss_mech.specs.declared.mechanism.Accepted.{Accepted}
use Rattle.job_table.specs.Table.{JobTable}
use Rattle.mount.specs.Falling.{forgotten}
use Rattle.mount.specs.State.{Mounted, awaited_at}
use Rattle.mount.specs.Taking.{Means}
use Rattle.mount.specs.declared.state.Awaiting.{Awaiting as Waits}
use Rattle.nfs_base.specs.declared.seal.End.{End}
use Rattle.nfs_base.specs.declared.seal.End.TheVariants.{Client, Dest, Source}
use Rattle.nfs_base.specs.declared.seal.Seal.{Seal}
use Rattle.nfs_compound.specs.Callbacks.{cb_reply}
use Rattle.nfs_compound.specs.declared.cb_reply.CbReply.{CbReply}
use Rattle.outbox.specs.declared.outgoing.Outgoing.{Outgoing}
use Rattle.own_laws.specs.Following.{InTurns}
use Rattle.reply_laws.specs.Answers.{Answers, IsAnswer, IsSealedBy}
use Rattle.rpc_calls.specs.Judging.{judged_of}
use Rattle.rpc_calls.specs.declared.call.Judged.{Judged}
use Rattle.rpc_calls.specs.declared.call.Judged.TheVariants as judged
use Rattle.rpc_calls.specs.declared.call.TheConstants.Program as programs
use Rattle.session_server.specs.Host as hosts
use Rattle.session_server.specs.Steps.{IsJudgedTurn}
use Rattle.streams.specs.declared.draws.Drawn.{Drawn}
use Rattle.wire_lines.specs.declared.letters.Speaker.{Speaker}
use Rattle.wire_machine.specs.History.{part_acts, sent_of}
use Rattle.wire_model.specs.CallerLaws.{LearnsRoot}
use Rattle.wire_model.specs.Spelling.{Context}
use Rattle.wire_model.specs.Wire as wire
use Rattle.wire_model.specs.Wire.{Acts, Executed}
use Rattle.wire_spelling.specs.Spelling.{spelling}
use Rattle.wire_xdr.specs.All.{value_of}

-- ---- jobs get seats

posted_clients : (seated : List Seating) (c : CallbackTable) → AreClients c → AreClients (seats_posted seated c)
posted_clients [] c clients = clients
posted_clients (one ∷ more) c clients =
    posted_clients more (posted one.seat one.job one.party c)
    (record { lines = clients.lines; posts = posts_with c one.seat (record { job = one.job; party = one.party; awaiting = None }) clients.posts tt })

posted_calls : (seated : List Seating) (c : CallbackTable) → (seats_posted seated c).calls ≡ c.calls
posted_calls [] c = refl
posted_calls (one ∷ more) c = posted_calls more (posted one.seat one.job one.party c)

forgotten_calls : (seated : List Seating) (m : Mounted) → (seats_forgotten seated m).calls ≡ m.calls
forgotten_calls [] m = refl
forgotten_calls (one ∷ more) m = forgotten_calls more (forgotten one.seat m)

forgotten_places : (seated : List Seating) (m : Mounted) (place : ℕ) → awaited_at (seats_forgotten seated m) place ≡ awaited_at m place
forgotten_places [] m place = refl
forgotten_places (one ∷ more) m place = forgotten_places more (forgotten one.seat m) place

module _ (who : Identity) (means : Means) where
  abbrev seat_steps : List Seating → Above → Above → List MountStep
  seat_steps [] a middle = (record { move = Rests; above = middle }) ∷ []
  seat_steps (one ∷ more) a middle = (record { move = Forgets one.seat; above = a }) ∷ seat_steps more a middle

  -- the last of them goes to what there is in the end
  seat_runs : (seated : List Seating) (a middle : Above) (m : Mounted) → a.boot ≡ middle.boot → a.calls ≤ middle.calls
      → ((place : ℕ) (x : Waits) → awaited_at m place ≡ Some x → middle.purpose place ≡ a.purpose place)
      → ((purpose : wire.Purpose) → a.ready purpose ≡ true → middle.ready purpose ≡ true)
      → IsRun who means (seat_steps seated a middle) a m middle (seats_forgotten seated m)
  seat_runs [] a middle m boot calls purpose ready =
      (record { boot = boot; calls = calls; purpose = purpose }, ready, λ spelled. tt, (refl, refl))
  seat_runs (one ∷ more) a middle m boot calls purpose ready = (
    record { boot = refl; calls = omega arith; purpose = λ q x there. refl },
    λ purpose is. is,
    λ spelled. tt,
    seat_runs more a middle (forgotten one.seat m) boot calls purpose ready,
  )

  seat_loses : (seated : List Seating) (a middle : Above) → AreLosing (seat_steps seated a middle)
  seat_loses [] a middle = (refl, tt)
  seat_loses (one ∷ more) a middle = (refl, seat_loses more a middle)

  seat_silent : (seated : List Seating) (a middle : Above) (m : Mounted) → (whole means (seat_steps seated a middle) m).out ≡ []
  seat_silent [] a middle m = refl
  seat_silent (one ∷ more) a middle m = seat_silent more a middle (forgotten one.seat m)

  seat_untaken : (seated : List Seating) (a middle : Above) (m : Mounted) → (whole means (seat_steps seated a middle) m).took ≡ None
  seat_untaken [] a middle m = refl
  seat_untaken (one ∷ more) a middle m = refl

  seat_sends : (seated : List Seating) (a middle : Above) → SendsAreFit (seat_steps seated a middle)
  seat_sends [] a middle = (tt, tt)
  seat_sends (one ∷ more) a middle = (tt, seat_sends more a middle)

  seat_fits : (seated : List Seating) (a middle : Above) (m : Mounted) → MovesAreFit means (seat_steps seated a middle) m
  seat_fits [] a middle m = (tt, tt)
  seat_fits (one ∷ more) a middle m = (tt, seat_fits more a middle (forgotten one.seat m))

  pub seats_whole : (seated : List Seating) (a b : Above) (m n : Mounted) (shown : Acts) → n ≡ seats_forgotten seated m → a.boot ≡ b.boot
      → ((place : ℕ) (x : Waits) → awaited_at m place ≡ Some x → b.purpose place ≡ a.purpose place)
      → ((purpose : wire.Purpose) → a.ready purpose ≡ true → b.ready purpose ≡ true)
      → ((root : Context) → LearnsRoot (spelling who.accepts who.whose) m.server (caller_of a m) shown root → ⊥)
      → AreBesides (spelling who.accepts who.whose) m.server a.calls shown.out b.calls → Plain who means a b m n shown
  seats_whole seated a b m n shown same boot purpose ready never are =
      let middle = counting a.calls b in
      record {
        step = record {
          steps = seat_steps seated a middle;
          middle = middle;
          run =
              subst (λ (k : Mounted). IsRun who means (seat_steps seated a middle) a m middle k) (sym same)
              (seat_runs seated a middle m boot (omega arith) purpose ready);
          ordered = inl (record {
            head = [];
            losing = seat_steps seated a middle;
            late = [];
            is = sym (append-nil (seat_steps seated a middle));
            root = false;
            takes = inl refl;
            loses = seat_loses seated a middle;
            anew = tt;
            keeps_root = λ e. absurd cc;
          });
          besides = shown.out;
          stays = stays_seen b n a.calls;
          takes = inr (seat_untaken seated a middle m, never);
          out = ap (λ (ss : List wire.Sent). ss ++ shown.out) (sym (seat_silent seated a middle m));
          are = are;
        };
        sends = seat_sends seated a middle;
        fits = seat_fits seated a middle m;
      }

  -- ---- answers are nothing to the source

  elsewhere : (owner : End) → (owner ≡ Source → ⊥) → (one : Outgoing) → IsSealedBy owner one.seal → IsElsewhere Source (sent_of one)
  elsewhere owner apart one by seal is own = apart (sym (by seal is) ∙ own)

  answers_beside : (owner : End) → (owner ≡ Source → ⊥) → (sent : List Outgoing) → AllByRecursion (IsAnswer owner) sent → (low last : ℕ) → low ≤ last
      → AreBesides (spelling who.accepts who.whose) Source low (map sent_of sent) last
  answers_beside owner apart [] all low last le = le
  answers_beside owner apart (one ∷ more) all low last le =
      (elsewhere owner apart one all.0.1, inl (all.0.0, answers_beside owner apart more all.1 low last le))

-- ---- a client's reply is accepted under a context of a client's

abbrev HearsClients : Hearing → Type 0
HearsClients hears.Unmatched = Unit {0}
HearsClients (hears.Passed job accepted) = IsSealedBy Client accepted
HearsClients (hears.Done job seal) = seal.owner ≡ Client

some_clients : (had : Seal) → had.owner ≡ Client → IsSealedBy Client (Some had)
some_clients had own seal is =
    let same : had ≡ seal = cc in
    ap (λ (s : Seal). s.owner) (sym same) ∙ own

none_clients : IsSealedBy Client None
none_clients seal is = absurd cc

done_clients : (done : Bool) (job : ℕ) (seal : Seal) → seal.owner ≡ Client → HearsClients (hearings.by_done done job seal)
done_clients true job seal own = own
done_clients false job seal own = some_clients seal own

reply_clients : (job : ℕ) (seal : Seal) (o : Option CbReply) → seal.owner ≡ Client → HearsClients (hearings.by_reply job seal o)
reply_clients job seal None own = some_clients seal own
reply_clients job seal (Some reply) own = done_clients (is_done reply) job seal own

checked_clients : (job : ℕ) (seal : Seal) (c : Checked) → seal.owner ≡ Client → HearsClients (hearings.by_checked job seal c)
checked_clients job seal (checked.Result body) own = reply_clients job seal (value_of cb_reply body) own
checked_clients job seal (checked.Failed stat) own = none_clients
checked_clients job seal (checked.Denied why) own = none_clients
checked_clients job seal checked.Unmatched own = tt

post_clients : (mic : Mic) (message : List ℕ) (o : Option Post) → IsClientsPost o → HearsClients (hearings.heard_at mic message o)
post_clients mic message None own = tt
post_clients mic message (Some post) own = by post.awaiting own
  where
    by : (o : Option Awaiting) → IsClientsCall o → HearsClients (hearings.heard_for mic message post.job o)
    by None own = tt
    by (Some a) own = checked_clients post.job a.seal (checked_of mic a.key a.awaited message) own

or_clients : (first more : Hearing) → HearsClients first → HearsClients more → HearsClients (hearings.or_heard first more)
or_clients hears.Unmatched more here there = there
or_clients (hears.Passed job accepted) more here there = here
or_clients (hears.Done job seal) more here there = here

from_clients : (mic : Mic) (message : List ℕ) (ps : List (Option Post)) → ((seat : ℕ) → IsClientsPost (slice_index_or ps seat None)) → (left seat : ℕ)
    → HearsClients (hearings.heard_from mic message ps left seat)
unfolding hearings.heard_from
from_clients mic message ps all zero seat = tt
from_clients mic message ps all (suc left) seat =
    or_clients (hearings.heard_at mic message (slice_index_or ps seat None)) (hearings.heard_from mic message ps left (seat + 1))
    (post_clients mic message (slice_index_or ps seat None) (all seat)) (from_clients mic message ps all left (seat + 1))

if_clients : (there : Bool) (h : Hearing) → HearsClients h → HearsClients (dest_hearings.hearing_if there h)
if_clients true h own = own
if_clients false h own = tt

book_clients : (t : JobTable) (boot : ℕ) (h : Hearing) → HearsClients h → HearsClients (dest_hearings.of_book t boot h)
book_clients t boot hears.Unmatched own = tt
book_clients t boot (hears.Passed number accepted) own = if_clients (dest_hearings.is_there t boot number) (hears.Passed number accepted) own
book_clients t boot (hears.Done number seal) own = if_clients (dest_hearings.is_there t boot number) (hears.Done number seal) own

heard_clients : (mic : Mic) (boot : ℕ) (message : List ℕ) (x : Copier) → AreClients x.back → HearsClients (dest_hearings.heard_client mic boot message x)
heard_clients mic boot message x clients =
    book_clients x.copies.book.table boot (hearings.heard mic message x.back) (from_clients mic message x.back.posts clients.posts SEATS 0)

-- it changes copies alone
record Keeps (x : Copier) (o : Copier × Option Seal) : Type 0 where
  work : o.0.work ≡ x.work
  back : o.0.back ≡ x.back
  accepted : IsSealedBy Client o.1

hearing_keeps : (boot : ℕ) (h : Hearing) (x : Copier) → HearsClients h → Keeps x (dest_hearings.hearing_done boot h x)
hearing_keeps boot hears.Unmatched x own = record { work = refl; back = refl; accepted = none_clients }
hearing_keeps boot (hears.Passed number accepted) x own = record { work = refl; back = refl; accepted = own }
hearing_keeps boot (hears.Done number seal) x own = record { work = refl; back = refl; accepted = some_clients seal own }

-- ---- the step

no_root : {A : Type 0} (who : Identity) (s_server owner : End) → (owner ≡ Source → ⊥) → s_server ≡ Source → (v : wire.Caller) (shown : Acts) → IsSealedBy owner shown.accepted → (root : Context)
    → LearnsRoot (spelling who.accepts who.whose) s_server v shown root → A
no_root who server owner apart is v shown by root learnt = absurd (apart (sym (by learnt.seal learnt.takes.accepted) ∙ learnt.own ∙ is))

client_apart : Client ≡ Source → ⊥
client_apart e = absurd cc

dest_apart : Dest ≡ Source → ⊥
dest_apart e = absurd cc

module _ {M W : Type 0} (who : Identity) (means : Means) (tokens : List ℕ → List ℕ → Option Accepted) (gives : W → Drawn → W → Type 0)
    (seats : InTurns {X = Destination M} {C = Carried} SeatsAlong dest_rules (record { mic = means.mic; derived = means.derived }) tokens gives)
    (conn : ℕ) (message : List ℕ) (now : ℕ) (s : DestState M) (before after : W) (t : DestStep M) (speaker : Speaker) (executed : Option Executed)
    (settled : IsSettledAs who (copier_in s)) (owner : s.contexts.owner ≡ Dest) (later : made_in s ≤ made_in t.host) where
  abbrev codes : hosts.Codes
  codes = record { mic = means.mic; derived = means.derived }

  abbrev shown : Acts
  shown = part_acts (part_by (Some message) speaker t) executed

  call_seen : s.state.machine.store.volume.boot ≡ t.host.state.machine.store.volume.boot → Answers s.contexts.owner t.out
      → Seats (copier_in s) (copier_in t.host) → IsSeenPlain who means s t.host shown
  call_seen boot answers seated =
      let step =
      seats_whole who means seated.seated (above_of s) (above_of t.host) (mount_of s) (mount_of t.host) shown seated.mount boot
      (λ q x there. ap (λ (ps : List workers.Post). post_purpose (posts.post_at ps q)) seated.workers)
      (stays_ready (made_in s) (made_in t.host) later)
      (λ root learnt. no_root who (mount_of s).server Dest dest_apart settled.server (caller_of (above_of s) (mount_of s)) shown
      (subst (λ (e : End). IsSealedBy e t.out.accepted) owner answers.accepted) root learnt)
      (subst (λ (e : End). AreBesides (spelling who.accepts who.whose) e (above_of s).calls (map sent_of t.out.sent) (above_of t.host).calls) (sym settled.server)
      (answers_beside who means Dest dest_apart t.out.sent (subst (λ (e : End). AllByRecursion (IsAnswer e) t.out.sent) owner answers.sent)
      (above_of s).calls (above_of t.host).calls (omega (arith, counts seated)))) in
      record {
        seen = record {
          step = step.step;
          fits = λ sends. step.fits;
          clients = subst AreClients (sym seated.back_is) (posted_clients seated.seated (copier_in s).back settled.clients);
        };
        sends = step.sends;
      }
    where
      counts : (seated : Seats (copier_in s) (copier_in t.host)) → (above_of t.host).calls ≡ (above_of s).calls
      counts seated =
          ap (λ (m : Mounted). last_xid m (copier_in t.host).back) seated.mount
          ∙ ap (last_xid (seats_forgotten seated.seated (mount_of s))) seated.back_is
          ∙ ap (λ (k : ℕ). max k (seats_posted seated.seated (copier_in s).back).calls) (forgotten_calls seated.seated (mount_of s))
          ∙ ap (λ (k : ℕ). max (mount_of s).calls k) (posted_calls seated.seated (copier_in s).back)

  answer_seen : t ≡ answer_step means.mic message now s → IsSeenPlain who means s t.host shown
  answer_seen is =
      let u = answer_step means.mic message now s in
      let x = copier_in s in
      let keeps = hearing_keeps s.state.machine.store.volume.boot (dest_hearings.heard_client means.mic s.state.machine.store.volume.boot message x) x
      (heard_clients means.mic s.state.machine.store.volume.boot message x settled.clients) in
      subst (λ (v : DestStep M). IsSeenPlain who means s v.host (part_acts (part_by (Some message) speaker v) executed)) (sym is)
      (let step =
      seats_whole who means [] (above_of s) (above_of u.host) (mount_of s) (mount_of u.host) (part_acts (part_by (Some message) speaker u) executed)
      (ap (λ (w : Work). w.mount) keeps.work) refl
      (λ q y there. ap (λ (w : Work). post_purpose (posts.post_at w.workers q)) keeps.work)
      (stays_ready (made_in s) (made_in u.host) (subst (λ (v : DestStep M). made_in s ≤ made_in v.host) is later))
      (λ root learnt. no_root who (mount_of s).server Client client_apart settled.server (caller_of (above_of s) (mount_of s))
      (part_acts (part_by (Some message) speaker u) executed) keeps.accepted root learnt)
      (let same : (above_of u.host).calls ≡ (above_of s).calls =
      ap (λ (w : Work). last_xid w.mount (copier_in u.host).back) keeps.work ∙ ap (last_xid (mount_of s)) keeps.back in
      omega (arith, same)) in
      record { seen = record { step = step.step; fits = λ sends. step.fits; clients = subst AreClients (sym keeps.back) settled.clients }; sends = step.sends })

  record_by : (j : Judged) → judged_of means.mic (max s.second now) programs.NFS message s.contexts ≡ j
      → (IsJudgedTurn (judged_of means.mic (max s.second now) programs.NFS message s.contexts) dest_rules codes tokens gives (max s.second now) conn s before after t
      → s.state.machine.store.volume.boot ≡ t.host.state.machine.store.volume.boot)
      → (IsJudgedTurn (judged_of means.mic (max s.second now) programs.NFS message s.contexts) dest_rules codes tokens gives (max s.second now) conn s before after t
      → Answers s.contexts.owner t.out)
      → IsRecordBy j codes tokens gives conn message now s before after t → IsSeenPlain who means s t.host shown
  record_by judged.Reply is boot answers turn = answer_seen turn.is
  record_by judged.Unread is boot answers turn =
      let so = subst (λ (j : Judged). IsJudgedTurn j dest_rules codes tokens gives (max s.second now) conn s before after t) (sym is) turn in
      call_seen (boot so) (answers so) (seats conn message now s before after t so).seats
  record_by (judged.Call call) is boot answers turn =
      let so = subst (λ (j : Judged). IsJudgedTurn j dest_rules codes tokens gives (max s.second now) conn s before after t) (sym is) turn in
      call_seen (boot so) (answers so) (seats conn message now s before after t so).seats

  pub record_seen : (IsJudgedTurn (judged_of means.mic (max s.second now) programs.NFS message s.contexts) dest_rules codes tokens gives (max s.second now) conn s before after t
      → s.state.machine.store.volume.boot ≡ t.host.state.machine.store.volume.boot)
      → (IsJudgedTurn (judged_of means.mic (max s.second now) programs.NFS message s.contexts) dest_rules codes tokens gives (max s.second now) conn s before after t
      → Answers s.contexts.owner t.out)
      → IsRecord codes tokens gives conn message now s before after t → IsSeenPlain who means s t.host shown
  record_seen boot answers turn = record_by (judged_of means.mic (max s.second now) programs.NFS message s.contexts) refl boot answers turn

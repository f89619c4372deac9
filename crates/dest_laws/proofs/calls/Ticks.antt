-- A second that comes by itself, as the source sees it: what is awaited goes out once more, and so do callbacks.
use Rattle.std.proofs.Common.{◌≡◌, ◌∙◌, ◌⊎◌, inl, inr, ℕ, zero, suc, ◌+◌, ◌<◌, ◌≤◌, Bool, true, false, List, [], ◌∷◌, ◌++◌, Option, Some, None, option_map, refl, sym, ap, subst, arith}
use Rattle.std.proofs.lemmas.List.{append-nil, append_assoc, map-append}
use Rattle.std.specs.Prelude.{map, max}
use Rattle.caller_laws.specs.Good.{Identity}
use Rattle.caller_laws.specs.Moves.{Again as Once_more, Rests, Send, Sends, sent_by}
use Rattle.caller_laws.specs.OneStep.Besides.{AreBesides}
use Rattle.caller_laws.specs.OneStep.Order.{AreAgain}
use Rattle.caller_laws.specs.OneStep.Runs.{IsRun, MountStep, whole}
use Rattle.caller_laws.specs.OneStep.Whole.{IsWholeStep}
use Rattle.caller_laws.specs.View.{Above}
use Rattle.dest_back.specs.Callbacks.{CallbackTable, post_at, sent_in}
use Rattle.dest_back.specs.Telling.{told_again}
use Rattle.dest_back.specs.declared.telling.Sent.{Sent as Callback}
use Rattle.dest_core.specs.Stepping.{DestState, around, copier_in, tick_step}
use Rattle.dest_laws.proofs.calls.Callbacks.{IsNext, Tells, max_left, next_of, told_again_goes}
use Rattle.dest_laws.proofs.calls.Wholes.{counting, stays_ready, stays_seen}
use Rattle.dest_laws.specs.Calls.Fits.{MovesAreFit, SendsAreFit}
use Rattle.dest_laws.specs.Calls.Settled.{AreClients, IsSettledAs}
use Rattle.dest_laws.specs.Calls.Steps.{IsSeenPlain, above_of, mount_of}
use Rattle.dest_laws.specs.View.Steps.{part_by}
use Rattle.dest_laws.specs.View.View.{made_in}
use Rattle.dest_steps.specs.Calls.{errand_label, workers_call}
use Rattle.dest_steps.specs.Copier.{Around, Codes, last_xid, xid_of}
use Rattle.dest_steps.specs.Telling.{call_at, callback, callbacks}
use Rattle.dest_steps.specs.Ticking as tickings
use Rattle.dest_steps.specs.Ticking.{adds, again, call_added, call_again, calls_from, job_again, jobs_from, none_again, told_added, with_again}
use Rattle.dest_steps.specs.Turning.{send_at}
use Rattle.dest_steps.specs.declared.copier.Copier.{Copier}
use Rattle.dest_steps.specs.declared.ticking.Again.{Again}
use Rattle.dest_tasks.specs.Posts as posts
use Rattle.dest_tasks.specs.Seats.{seat_of}
use Rattle.dest_tasks.specs.Tasks.{is_gone}
use Rattle.dest_tasks.specs.declared.post.Errand.{Errand}
use Rattle.dest_tasks.specs.declared.workers.TheConstants.{WORKERS}
use Rattle.dest_work.specs.Work.{is_due}
use Rattle.job_book.specs.Book.{client_of, next_name}
use Rattle.mount.specs.Laws.{Goes, Went}
use Rattle.mount.specs.Sending.{sent_again}
use Rattle.mount.specs.State.{Mounted, awaited_at, setup_in}
use Rattle.mount.specs.Taking.{Means}
use Rattle.mount.specs.declared.machine.SendAt.{SendAt}
use Rattle.mount.specs.declared.machine.Sent.{Sent}
use Rattle.mount.specs.declared.state.Awaiting.{Awaiting}
use Rattle.nfs_base.specs.declared.job.JobName.{JobName}
use Rattle.nfs_base.specs.declared.limits.TheConstants.{MOST_JOBS}
use Rattle.nfs_base.specs.declared.seal.End.{End}
use Rattle.nfs_base.specs.declared.seal.End.TheVariants.{Source}
use Rattle.outbox.specs.declared.label.CallLabel.{CallLabel}
use Rattle.wire_lines.specs.declared.letters.Speaker.{Speaker}
use Rattle.wire_machine.specs.History.{part_acts, sent_of}
use Rattle.wire_model.specs.Spelling.{Spelling}
use Rattle.wire_model.specs.Wire as wire
use Rattle.wire_model.specs.Wire.{Executed}
use Rattle.wire_spelling.specs.Spelling.{spelling}

-- ---- workers' calls

module _ (who : Identity) (means : Means) (went : (at : SendAt) (send : Send) (m : Mounted) → Went at m (sent_by means.mic at send m)) (around : Around) (x : Copier) (base : Above) where
  abbrev codes : Codes
  codes = record { mic = means.mic; derived = means.derived }

  abbrev above_at : Again → Above
  above_at a = counting (last_xid a.mount a.back) base

  -- what went out once more, from a place on
  record Runs (place : ℕ) (a e : Again) : Type 0 where
    steps : List MountStep
    run : IsRun who means steps (above_at a) a.mount (above_at e) e.mount
    upwards : (low : ℕ) → low ≤ place → AreAgain low steps
    sent : map sent_of e.sent ≡ map sent_of a.sent ++ (whole means steps a.mount).out
    back : e.back ≡ a.back
    gives : SendsAreFit steps
    fits : MovesAreFit means steps a.mount

  -- one call, or none
  record GoesAgain (place : ℕ) (a e : Again) : Type 0 where
    at : SendAt
    place_is : at.place ≡ place
    sent : Sent
    goes : (sent_by means.mic at Once_more a.mount).0 ≡ Some sent
    mount : e.mount ≡ (sent_by means.mic at Once_more a.mount).1
    back : e.back ≡ a.back
    sent_is : map sent_of e.sent ≡ map sent_of a.sent ++ (record { bytes = sent.bytes; seal = sent.seal }) ∷ []
    next : IsNext a.mount a.back at.xid

  abbrev One : ℕ → Again → Again → Type 0
  One place a e = (e ≡ a) ⊎ GoesAgain place a e

  added : (place : ℕ) (at : SendAt) (label : CallLabel) (a : Again) → at.place ≡ place → IsNext a.mount a.back at.xid → (o : Option Sent × Mounted)
      → sent_again means.mic at a.mount ≡ o → One place a (call_added place label o a)
  added place at label a here next (None, m) is =
      let goes = went at Once_more a.mount in
      let same : m ≡ a.mount = subst (λ (o : Option Sent × Mounted). Goes at a.mount o.0 o.1) is goes in
      inl (ap (λ (k : Mounted). record a { mount = k }) same)
  added place at label a here next (Some sent, m) is = inr (record {
    at = at;
    place_is = here;
    sent = sent;
    goes = ap (λ (o : Option Sent × Mounted). o.0) is;
    mount = sym (ap (λ (o : Option Sent × Mounted). o.1) is);
    back = refl;
    sent_is = map-append sent_of a.sent ((workers_call place label sent) ∷ []);
    next = next;
  })

  one_call : (place : ℕ) (a : Again) → One place a (call_again codes around place x a)
  one_call place a = due (is_due (option_map (λ (w : Awaiting). w.sent_at) (awaited_at a.mount place)) around.second)
    where
      number : (call : JobName × Errand) (o : Option ℕ) → xid_of a.mount a.back ≡ o → One place a (tickings.call_by o codes around place call.1 a)
      number call None is = inl refl
      number call (Some xid) is =
          added place (send_at around place xid) (errand_label call.1 (setup_in a.mount.standing)) a refl (next_of a.mount a.back xid is)
          (sent_again means.mic (send_at around place xid) a.mount) refl

      asked : (o : Option (JobName × Errand)) → One place a (tickings.call_for codes around place o a)
      asked None = inl refl
      asked (Some call) = number call (xid_of a.mount a.back) refl

      due : (b : Bool) → One place a (tickings.call_if b codes around place x a)
      due true = asked (posts.asks (posts.post_at x.work.workers place))
      due false = inl refl

  counted : (at : SendAt) (m w : Mounted) (sent : Sent) (o : Option Sent) → o ≡ Some sent → Goes at m o w → w.calls ≡ at.xid
  counted at m w sent None is goes = absurd cc
  counted at m w sent (Some other) is goes = goes.calls

  then_on : (place : ℕ) (a e f : Again) → place < WORKERS → One place a e → Runs (place + 1) e f → Runs place a f
  then_on place a e f within (inl same) r =
      subst (λ (b : Again). Runs place b f) same
      (record { steps = r.steps; run = r.run; upwards = λ low le. r.upwards low (omega arith); sent = r.sent; back = r.back; gives = r.gives; fits = r.fits })
  then_on place a e f within (inr g) r =
      let m = (sent_by means.mic g.at Once_more a.mount).1 in
      let calls : m.calls ≡ g.at.xid =
      counted g.at a.mount m g.sent (sent_by means.mic g.at Once_more a.mount).0 g.goes (went g.at Once_more a.mount) in
      let now : e.mount.calls ≡ g.at.xid = ap (λ (k : Mounted). k.calls) g.mount ∙ calls in
      let top = max_left e.mount.calls e.back.calls in
      let next = g.next in
      let low = next.is in
      let here = g.place_is in
      let step : MountStep = record { move = Sends g.at Once_more; above = above_at e } in
      record {
        steps = step ∷ r.steps;
        run = (
          record { boot = refl; calls = omega (arith, low, top, now); purpose = λ q y there. refl },
          λ purpose ready. ready,
          λ spelled. record {
            place = let le = within in omega arith;
            unused = next.mount;
            fresh = omega (arith, low);
            counted = omega (arith, top, now);
            small = next.small;
            suits = tt;
            fits = spelled.0;
            are_bytes = spelled.1;
          },
          subst (λ (k : Mounted). IsRun who means r.steps (above_at e) k (above_at f) f.mount) g.mount r.run,
        );
        upwards = λ l le. (omega (arith, le, here), r.upwards (g.at.place + 1) (omega (arith, here)));
        sent =
            r.sent
            ∙ ap (λ (ss : List wire.Sent). ss ++ (whole means r.steps e.mount).out) g.sent_is
            ∙ append_assoc (map sent_of a.sent) ((record { bytes = g.sent.bytes; seal = g.sent.seal }) ∷ []) (whole means r.steps e.mount).out
            ∙ ap (λ (k : Mounted). map sent_of a.sent ++ (((record { bytes = g.sent.bytes; seal = g.sent.seal }) ∷ []) ++ (whole means r.steps k).out)) g.mount
            ∙ ap (λ (o : Option Sent). map sent_of a.sent ++ (goes_out o ++ (whole means r.steps m).out)) (sym g.goes);
        back = r.back ∙ g.back;
        gives = (tt, r.gives);
        fits = (
          record { place = (let le = within in omega arith); unused = next.mount; small = next.small; fits = tt },
          subst (λ (k : Mounted). MovesAreFit means r.steps k) g.mount r.fits,
        );
      }
    where
      goes_out : Option Sent → List wire.Sent
      goes_out None = []
      goes_out (Some s) = (record { bytes = s.bytes; seal = s.seal }) ∷ []

  calls_run : (left place : ℕ) (a : Again) → place + left ≤ WORKERS → Runs place a (calls_from codes around x left place a)
  unfolding calls_from
  calls_run zero place a within = record {
    steps = [];
    run = (refl, refl);
    upwards = λ low le. tt;
    sent = sym (append-nil (map sent_of a.sent));
    back = refl;
    gives = tt;
    fits = tt;
  }
  calls_run (suc left) place a within =
      let e = call_again codes around place x a in
      then_on place a e (calls_from codes around x left (place + 1) e) (omega arith) (one_call place a) (calls_run left (place + 1) e (omega arith))

  -- ---- callbacks

  abbrev Spell : Spelling
  Spell = spelling who.accepts who.whose

  weaker : (low mid : ℕ) (sent : List wire.Sent) (last : ℕ) → low ≤ mid → AreBesides Spell Source mid sent last → AreBesides Spell Source low sent last
  weaker low mid [] last le are = omega arith
  weaker low mid (one ∷ more) last le are = (
    are.0,
    elim are.1 [
      | inl reply ↦ inl (reply.0, weaker low mid more last le reply.1)
      | inr call ↦ let lt : mid < Spell.xid_of one.bytes = call.0 in inr (omega arith, call.1)
    ],
  )

  both : (low mid last : ℕ) (xs ys : List wire.Sent) → AreBesides Spell Source low xs mid → AreBesides Spell Source mid ys last → AreBesides Spell Source low (xs ++ ys) last
  both low mid last [] ys first second = weaker low mid ys last first second
  both low mid last (one ∷ xs) ys first second = (
    first.0,
    elim first.1 [
      | inl reply ↦ inl (reply.0, both low mid last xs ys reply.1 second)
      | inr call ↦ inr (call.0, both (Spell.xid_of one.bytes) mid last xs ys call.1 second)
    ],
  )

  record TellsAgain (a e : Again) : Type 0 where
    mount : e.mount ≡ a.mount
    besides : List wire.Sent
    sent : map sent_of e.sent ≡ map sent_of a.sent ++ besides
    are : AreBesides Spell Source (last_xid a.mount a.back) besides (last_xid e.mount e.back)
    clients : AreClients e.back

  none_told : (a : Again) → AreClients a.back → TellsAgain a a
  none_told a clients = record { mount = refl; besides = []; sent = sym (append-nil (map sent_of a.sent)); are = omega arith; clients = clients }

  told_on : (a e f : Again) → TellsAgain a e → TellsAgain e f → TellsAgain a f
  told_on a e f first second = record {
    mount = second.mount ∙ first.mount;
    besides = first.besides ++ second.besides;
    sent =
        second.sent
        ∙ ap (λ (ss : List wire.Sent). ss ++ second.besides) first.sent
        ∙ append_assoc (map sent_of a.sent) first.besides second.besides;
    are = both (last_xid a.mount a.back) (last_xid e.mount e.back) (last_xid f.mount f.back) first.besides second.besides first.are second.are;
    clients = second.clients;
  }

  told_once : (a : Again) (o : Option Callback × CallbackTable) → Tells who a.mount a.back (callbacks o.0) o.1 → TellsAgain a (told_added o a)
  told_once a (None, back) t =
      record { mount = refl; besides = []; sent = sym (append-nil (map sent_of a.sent)); are = t.are; clients = t.clients }
  told_once a (Some call, back) t =
      record { mount = refl; besides = map sent_of (callbacks (Some call)); sent = map-append sent_of a.sent ((callback call) ∷ []); are = t.are; clients = t.clients }

  one_job : (name : JobName) (a : Again) → AreClients a.back → TellsAgain a (job_again codes around name x a)
  one_job name a clients = job (is_gone around.sessions around.second (client_of x.copies.book.table name))
    where
      number : (seat : ℕ) (o : Option ℕ) → xid_of a.mount a.back ≡ o → TellsAgain a (tickings.told_by o codes around seat a)
      number seat None is = none_told a clients
      number seat (Some xid) is =
          told_once a (told_again means.mic means.derived around.sessions (call_at around seat xid) a.back)
          (told_again_goes who a.mount means.mic means.derived around.sessions (call_at around seat xid) a.back clients (next_of a.mount a.back xid is))

      due : (seat : ℕ) (b : Bool) → TellsAgain a (tickings.told_if b codes around seat a)
      due seat true = number seat (xid_of a.mount a.back) refl
      due seat false = none_told a clients

      seated : (o : Option ℕ) → TellsAgain a (tickings.told_for codes around o a)
      seated None = none_told a clients
      seated (Some seat) = due seat (is_due (sent_in (post_at a.back seat)) around.second)

      job : (b : Bool) → TellsAgain a (tickings.job_told b codes around (seat_of name.number x.work.seats) a)
      job true = none_told a clients
      job false = seated (seat_of name.number x.work.seats)

  at_next_told : (o : Option JobName) (go : JobName → Again → Again) (a : Again) → AreClients a.back → ((name : JobName) → TellsAgain a (go name a))
      → TellsAgain a (tickings.at_next o go a)
  at_next_told None go a clients does = none_told a clients
  at_next_told (Some name) go a clients does = does name

  jobs_told : (left after : ℕ) (a : Again) → AreClients a.back → TellsAgain a (jobs_from codes around x left after a)
  unfolding jobs_from
  jobs_told zero after a clients = none_told a clients
  jobs_told (suc left) after a clients =
      at_next_told (next_name x.copies.book.table after) (λ name b. jobs_from codes around x left name.number (job_again codes around name x b)) a clients
      (λ name.
      let e = job_again codes around name x a in
      let first = one_job name a clients in
      told_on a e (jobs_from codes around x left name.number e) first (jobs_told left name.number e first.clients))

-- ---- the step

pub tick_seen : {M : Type 0} (who : Identity) (means : Means) → ((at : SendAt) (send : Send) (m : Mounted) → Went at m (sent_by means.mic at send m))
    → (now : ℕ) (s : DestState M) (speaker : Speaker) (executed : Option Executed) → IsSettledAs who (copier_in s)
    → made_in s ≤ made_in (tick_step (record { mic = means.mic; derived = means.derived }) now s).host
    → IsSeenPlain who means s (tick_step (record { mic = means.mic; derived = means.derived }) now s).host
    (part_acts (part_by None speaker (tick_step (record { mic = means.mic; derived = means.derived }) now s)) executed)
tick_seen {M} who means went now s speaker executed settled later =
    let x = copier_in s in
    let cs : Codes = record { mic = means.mic; derived = means.derived } in
    let t = tick_step cs now s in
    let ar = around (max s.second now) s in
    let b = above_of t.host in
    let start = none_again x in
    let e = calls_from cs ar x WORKERS 0 start in
    let f = again cs ar x in
    let r = calls_run who means went ar x b WORKERS 0 start (omega arith) in
    let told = jobs_told who means went ar x b MOST_JOBS 0 e (subst AreClients (sym r.back) settled.clients) in
    let first : MountStep = record { move = Rests; above = above_at who means went ar x b start } in
    let step : IsWholeStep who means (above_of s) (above_of t.host) (mount_of s) (mount_of t.host) (part_acts (part_by None speaker t) executed) =
    record {
      steps = first ∷ r.steps;
      middle = above_at who means went ar x b e;
      run = (
        record { boot = refl; calls = omega arith; purpose = λ q y there. refl },
        stays_ready (made_in s) (made_in t.host) later,
        λ spelled. tt,
        subst (λ (k : Mounted). IsRun who means r.steps (above_at who means went ar x b start) x.work.mount (above_at who means went ar x b e) k) (sym told.mount) r.run,
      );
      ordered = inr (tt, r.upwards 0 (omega arith));
      besides = told.besides;
      stays = stays_seen b f.mount (last_xid e.mount e.back);
      takes = inr (refl, λ root learnt. let took = learnt.takes.took in cc);
      out = told.sent ∙ ap (λ (ss : List wire.Sent). ss ++ told.besides) r.sent;
      are =
          subst (λ (o : End). AreBesides (spelling who.accepts who.whose) o (last_xid e.mount e.back) told.besides (last_xid f.mount f.back)) (sym settled.server)
          told.are;
    } in
    record { seen = record { step = step; fits = λ sends. (tt, r.fits); clients = told.clients }; sends = (tt, r.gives) }

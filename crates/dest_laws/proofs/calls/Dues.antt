-- What is due in a worker's turn, as far as the source sees it: one call goes out, or nothing does.
use Rattle.std.proofs.Common.{◌≡◌, ◌∙◌, ◌⊎◌, inl, inr, ℕ, Bool, true, false, List, length, Option, Some, None, refl, sym, ap, subst}
use Rattle.std.proofs.lemmas.Bool.{leb-true}
use Rattle.std.specs.Prelude.{nat_le}
use Rattle.caller_laws.specs.Fitting.Moving.{SendIsFit}
use Rattle.caller_laws.specs.Good.{Identity, IsOwnToken}
use Rattle.caller_laws.specs.Lawful.{Suits}
use Rattle.caller_laws.specs.Moves.{Begin, Send, Sends, sent_by}
use Rattle.caller_laws.specs.OneStep.Order.{is_anew}
use Rattle.caller_laws.specs.View.{Above}
use Rattle.dest_back.specs.Callbacks.{CallbackTable}
use Rattle.dest_laws.proofs.calls.Asking.{IsCall, IsReady, IsTurned, turn_does}
use Rattle.dest_laws.proofs.calls.Callbacks.{IsNext, commit_goes, next_of, stop_goes}
use Rattle.dest_laws.proofs.calls.Landings.{LandingTells, TurnTells}
use Rattle.dest_laws.specs.Calls.Fits.{DrawsAreFit, WorkIsFit}
use Rattle.dest_laws.specs.Calls.Settled.{AreClients, AreGivenOut}
use Rattle.dest_steps.specs.Calls.{errand_label, workers_call}
use Rattle.dest_steps.specs.Copier.{Around, Codes, xid_of}
use Rattle.dest_steps.specs.Turning as turnings
use Rattle.dest_steps.specs.Turning.{IsDue, IsTurn, IsTurnOf, begun_turn, drawn_turn, due_turn, send_at, with_turn}
use Rattle.dest_steps.specs.declared.copier.Copier.{Copier}
use Rattle.dest_steps.specs.declared.landing.Landing.{Landing}
use Rattle.dest_steps.specs.declared.turning.Turn.TheVariants as turns
use Rattle.dest_steps.specs.declared.turning.Turn.{Turn as DueTurn}
use Rattle.dest_tasks.specs.Posts.{job_in, post_at, put_at}
use Rattle.dest_tasks.specs.declared.post.Errand.{Errand}
use Rattle.dest_tasks.specs.declared.post.Errand.TheVariants as errands
use Rattle.dest_tasks.specs.declared.post.Post.TheVariants.{Awaits}
use Rattle.dest_work.specs.Work.{MayBegin, Turn, begun_for, turn}
use Rattle.dest_work.specs.declared.work.Due.{Due}
use Rattle.dest_work.specs.declared.work.Due.TheVariants as dues
use Rattle.dest_work.specs.declared.work.Work.{Work}
use Rattle.gss_ctx.specs.Seals.{Mic}
use Rattle.job_book.specs.Book.{id_of}
use Rattle.job_table.specs.Table.{is_running}
use Rattle.mount.specs.Laws.{Went}
use Rattle.mount.specs.Sending.{begun}
use Rattle.mount.specs.State.{awaited_at, setup_in}
use Rattle.mount.specs.declared.machine.SendAt.{SendAt}
use Rattle.mount.specs.declared.machine.Sent.{Sent}
use Rattle.nfs_base.specs.declared.job.JobName.{JobName}
use Rattle.nfs_base.specs.declared.job.Stop.TheVariants.{DiskFault, SourceRefused, Worn}
use Rattle.nfs_base.specs.declared.limits.TheConstants.{NAME_LIMIT}
use Rattle.nfs_base.specs.declared.status.TheConstants.Status.{PARTNER_NO_AUTH}
use Rattle.outbox.specs.declared.label.CallLabel.{CallLabel}
use Rattle.outbox.specs.declared.label.CallLabel.TheVariants as calls
use Rattle.session_client.specs.declared.setup.Setup.{Setup}
use Rattle.streams.specs.declared.draws.Drawn.{Drawn}
use Rattle.streams.specs.declared.draws.Drawn.TheVariants as draws

module _ (fit : Type 0) (who : Identity) (mic : Mic) (place : ℕ) (made : ℕ) (w : Work) (back : CallbackTable) where
  -- a call goes out by the next number
  pub record IsAsked (t : DueTurn × Copier) : Type 0 where
    pub at : SendAt
    pub at_place : at.place ≡ place
    pub next : IsNext w.mount back at.xid
    pub send : Send
    pub errand : Errand
    pub job : JobName
    pub sent : Sent
    pub label : CallLabel
    pub goes : (sent_by mic at send w.mount).0 ≡ Some sent
    pub due : t.0 ≡ turns.Sent (workers_call place label sent)
    pub work : t.1.work ≡ record w { mount = (sent_by mic at send w.mount).1; workers = put_at place (Awaits job errand) w.workers }
    pub back_is : t.1.back ≡ back
    pub anew : is_anew (Sends at send) ≡ true
    pub free : awaited_at w.mount place ≡ None
    pub suits : (above : Above) → above.ready (above.purpose place) ≡ true → Suits who above w.mount at send
    pub ready : IsReady made job errand
    pub sends : fit → SendIsFit send

  -- nothing does
  pub record IsIdle (t : DueTurn × Copier) : Type 0 where
    pub work : t.1.work ≡ w
    pub back_is : t.1.back ≡ back
    pub tells : TurnTells who w.mount back t.0
    pub lands : (told : Option Landing) → t.0 ≡ turns.Lands told → awaited_at w.mount place ≡ None

  abbrev pub Turns : DueTurn × Copier → Type 0
  Turns t = IsIdle t ⊎ IsAsked t

module _ {W : Type 0} (fit : Type 0) (who : Identity) (gives : W → Drawn → W → Type 0) (started : List ℕ → List ℕ → Option (List ℕ)) (codes : Codes) (around : Around) (before after : W) where
  -- ---- by what is due, once that is taken into the copier

  abbrev OwnTokens : Copier → Type 0
  OwnTokens x = (nonce token : List ℕ) → gives before (draws.Got nonce) after → started x.principal nonce ≡ Some token → IsOwnToken who token

  -- where all is within its bounds, so is what is drawn and started
  abbrev Draws : Copier → Type 0
  Draws x = fit → DrawsAreFit gives (started x.principal)

  landing_tells : (o : Option JobName) (x : Copier) → AreClients x.back → LandingTells who x.work.mount x.back (turnings.held_landing codes around o x)
  landing_tells None x clients = tt
  landing_tells (Some job) x clients = by (is_running x.copies.book.table (id_of job))
    where
      by : (b : Bool) → LandingTells who x.work.mount x.back (turnings.landing_if b codes around job x)
      by true = (stop_goes who codes around x clients job DiskFault, stop_goes who codes around x clients job Worn)
      by false = tt

  begun_turns : (made : ℕ) (at : SendAt) (job : JobName) (x : Copier) (nonce : List ℕ) (token : Option (List ℕ)) → AreClients x.back → IsNext x.work.mount x.back at.xid
      → MayBegin at.place x.work.mount → ((t : List ℕ) → token ≡ Some t → IsOwnToken who t)
      → ((t : List ℕ) → token ≡ Some t → fit → SendIsFit (Begin nonce (Some t)))
      → Turns fit who codes.mic at.place made x.work x.back (begun_turn codes around at.place job (begun_for at.place job (begun at nonce token x.work.mount) x.work) x)
  begun_turns made at job x nonce None clients next may own sends = inl (record {
    work = refl;
    back_is = refl;
    tells = stop_goes who codes around x clients job (SourceRefused PARTNER_NO_AUTH);
    lands = λ told e. absurd cc;
  })
  begun_turns made at job x nonce (Some token) clients next may own sends = inr (record {
    at = at;
    at_place = refl;
    next = next;
    send = Begin nonce (Some token);
    errand = errands.Setup;
    job = job;
    sent = _;
    label = calls.Init;
    goes = refl;
    due = refl;
    work = refl;
    back_is = refl;
    anew = refl;
    free = may.free;
    suits = λ above ready. (may.free, may.alone, may.down, own);
    ready = refl;
    sends = sends token refl;
  })

  drawn_turns : (made : ℕ) (at : SendAt) (job : JobName) (x : Copier) (drawn : Drawn) → AreClients x.back → IsNext x.work.mount x.back at.xid
      → MayBegin at.place x.work.mount → gives before drawn after → OwnTokens x → Draws x
      → Turns fit who codes.mic at.place made x.work x.back (drawn_turn started codes around at job drawn x)
  drawn_turns made at job x draws.Failed clients next may drew own fits =
      inl (record { work = refl; back_is = refl; tells = tt; lands = λ told e. absurd cc })
  drawn_turns made at job x (draws.Got nonce) clients next may drew own fits =
      begun_turns made at job x nonce (started x.principal nonce) clients next may (λ t is. own nonce t drew is)
      (λ t is f. ((fits f).nonces before after nonce drew, (fits f).tokens nonce t ((fits f).nonces before after nonce drew) is))

  -- where nothing was asked yet
  quiet_turns : (made : ℕ) (at : SendAt) (setup : Setup) (due : Due) (x : Copier) (t : DueTurn × Copier) → AreClients x.back → IsNext x.work.mount x.back at.xid
      → ((job : JobName) → due ≡ dues.Begin job → MayBegin at.place x.work.mount) → ((errand : Errand) (sent : Sent) → due ≡ dues.Asked errand sent → ⊥)
      → (due ≡ dues.Land → awaited_at x.work.mount at.place ≡ None) → OwnTokens x → Draws x
      → IsDue gives started codes around at setup due x before after t → Turns fit who codes.mic at.place made x.work x.back t
  quiet_turns made at setup dues.Rest x t clients next begins unasked lands own fits is =
      subst (Turns fit who codes.mic at.place made x.work x.back) (sym is.is) (inl (record { work = refl; back_is = refl; tells = tt; lands = λ told e. absurd cc }))
  quiet_turns made at setup dues.Land x t clients next begins unasked lands own fits is =
      subst (Turns fit who codes.mic at.place made x.work x.back) (sym is.is)
      (inl (record {
        work = refl;
        back_is = refl;
        tells = landing_tells (job_in (post_at x.work.workers at.place)) x clients;
        lands = λ told e. lands refl;
      }))
  quiet_turns made at setup (dues.Begin job) x t clients next begins unasked lands own fits is =
      subst (Turns fit who codes.mic at.place made x.work x.back) (sym is.is) (drawn_turns made at job x is.drawn clients next (begins job refl) is.drew own fits)
  quiet_turns made at setup (dues.Asked errand sent) x t clients next begins unasked lands own fits is = absurd (unasked errand sent refl)
  quiet_turns made at setup (dues.Commit job) x t clients next begins unasked lands own fits is =
      subst (Turns fit who codes.mic at.place made x.work x.back) (sym is.is)
      (inl (record {
        work = refl;
        back_is = refl;
        tells = (commit_goes who codes around x clients job, stop_goes who codes around x clients job DiskFault);
        lands = λ told e. absurd cc;
      }))

  -- ---- by what the task gave

  asked_turns : (made : ℕ) (at : SendAt) (setup : Setup) (me : List ℕ) (x : Copier) (due : Turn) (t : DueTurn × Copier) → IsNext x.work.mount x.back at.xid
      → IsCall fit who codes.mic at me x.work made due.told → awaited_at x.work.mount at.place ≡ None
      → IsDue gives started codes around at setup due.told.0 (with_turn due x) before after t → Turns fit who codes.mic at.place made x.work x.back t
  asked_turns made at setup me x due t next call free is =
      let y = with_turn due x in
      let so = subst (λ (d : Due). IsDue gives started codes around at setup d y before after t) call.due is in
      subst (Turns fit who codes.mic at.place made x.work x.back) (sym so.is)
      (inr (record {
        at = at;
        at_place = refl;
        next = next;
        send = call.send;
        errand = call.errand;
        job = call.job;
        sent = call.sent;
        label = errand_label call.errand setup;
        goes = call.goes;
        due = refl;
        work = call.work;
        back_is = refl;
        anew = call.anew;
        free = free;
        suits = call.suits;
        ready = call.ready;
        sends = call.sends;
      }))

  turned_turns : (made : ℕ) (at : SendAt) (setup : Setup) (me : List ℕ) (x : Copier) (due : Turn) (t : DueTurn × Copier) → AreClients x.back → IsNext x.work.mount x.back at.xid
      → IsTurned fit who codes.mic at me x.work made due.told → OwnTokens x → Draws x
      → IsDue gives started codes around at setup due.told.0 (with_turn due x) before after t → Turns fit who codes.mic at.place made x.work x.back t
  turned_turns made at setup me x due t clients next turned own fits is =
      elim turned.does [
        | inl quiet ↦
            let y = with_turn due x in
            let same : y.work ≡ x.work = quiet.work in
            subst (λ (w : Work). Turns fit who codes.mic at.place made w x.back t) same
            (quiet_turns made at setup due.told.0 y t clients (subst (λ (w : Work). IsNext w.mount x.back at.xid) (sym same) next)
            (λ job e. subst (λ (w : Work). MayBegin at.place w.mount) (sym same) (quiet.begins job e)) quiet.unasked
            (λ e. ap (λ (w : Work). awaited_at w.mount at.place) same ∙ turned.lands e) own fits is)
        | inr call ↦ asked_turns made at setup me x due t next call (turned.free call) is
      ]

  pub dues_turn : (place : ℕ) (x : Copier) (t : DueTurn × Copier) → ((at : SendAt) (send : Send) → Went at x.work.mount (sent_by codes.mic at send x.work.mount))
      → AreClients x.back → AreGivenOut x.copies.book.table → OwnTokens x → (fit → WorkIsFit codes.mic gives started x)
      → IsTurnOf gives started codes around place x before after t
      → Turns fit who codes.mic place x.copies.book.table.made x.work x.back t
  dues_turn place x t went clients given own works is = by (nat_le (length x.principal) NAME_LIMIT) (xid_of x.work.mount x.back) refl refl is
    where
      nothing : t ≡ (turns.Rest, x) → Turns fit who codes.mic place x.copies.book.table.made x.work x.back t
      nothing same =
          subst (Turns fit who codes.mic place x.copies.book.table.made x.work x.back) (sym same)
          (inl (record { work = refl; back_is = refl; tells = tt; lands = λ told e. absurd cc }))

      by : (short : Bool) (xid : Option ℕ) → nat_le (length x.principal) NAME_LIMIT ≡ short → xid_of x.work.mount x.back ≡ xid
          → IsTurn short xid gives started codes around place x before after t → Turns fit who codes.mic place x.copies.book.table.made x.work x.back t
      by false xid short e turn_is = nothing turn_is.is
      by true None short e turn_is = nothing turn_is.is
      by true (Some xid) short e turn_is =
          let at = send_at around place xid in
          turned_turns x.copies.book.table.made at (setup_in x.work.mount.standing) x.principal x
          (turn codes.mic at x.principal around.sessions x.work x.copies.book) t clients (next_of x.work.mount x.back xid e)
          (turn_does fit who codes.mic at x.principal x.work (went at) around.sessions x.copies.book given (λ f. (works f).codes)
          (λ f. record { short = leb-true (length x.principal) NAME_LIMIT short; are_bytes = (works f).principal }) (λ f. (works f).plans)) own
          (λ f. (works f).drawn) turn_is

-- At each of its servers a turn of a client is a run of its mount's steps.
use Rattle.std.proofs.Common.{◌≡◌, ◌∙◌, ℕ, ◌+◌, ◌<◌, Bool, true, false, List, [], ◌∷◌, ◌++◌, Option, Some, None, Result, Ok, Err, refl, sym, ap, subst, inl, inr, lit<, arith}
use Rattle.std.specs.Prelude.{◌&&◌, nat_lt}
use Rattle.std.specs.List.{AllByRecursion, flat_map}
use Rattle.std.proofs.lemmas.Bool.{ltb-true}
use Rattle.call_replies.specs.ReplyLaws.{denial_reply_is, failure_reply_is, init_reply_is, result_reply_is}
use Rattle.call_replies.specs.SaysLaws.{IsSaid, IsSpoken, auth_fits, garbage_fits, judged_says}
use Rattle.call_replies.specs.SealLaws.{accepted_owner, inited_owner, under_owner, unsealed}
use Rattle.call_replies.specs.Sealed.{IsSealedBy}
use Rattle.callbacks.specs.Callbacks.{Outcome, evaluated}
use Rattle.callbacks.specs.declared.evaluation.Told.{Told}
use Rattle.caller_laws.specs.Fitting.Moving.{GivesBytes}
use Rattle.caller_laws.specs.Good.{Identity}
use Rattle.caller_laws.specs.OneStep.Counting.{Counted}
use Rattle.caller_laws.specs.OneStep.Order.{IsOrdered}
use Rattle.caller_laws.specs.OneStep.Runs.{MountStep}
use Rattle.client_copies.specs.Table.{Copies, with_begun}
use Rattle.client_copies.specs.declared.copy.Query.{Query}
use Rattle.client_copies.specs.declared.table.TheConstants.{MOST_COPIES}
use Rattle.client_core.specs.Callbacks.{IsCompound, all_said, called_back, session_under, told_of}
use Rattle.client_core.specs.Calls.{call_dropped, created, denial_label, denied, destroyed, dropping, failed, inited_unless, is_misspelt, nulled, reply_seal}
use Rattle.client_core.specs.Commands.{IsBegunBy, asked_if, begun_with, with_work}
use Rattle.client_core.specs.Endings.{IsStep, Ways, acting_at, desk_at, ended_by, given, settled, undrawn}
use Rattle.client_core.specs.Records.{IsJudged, IsWhat, heard}
use Rattle.client_core.specs.State.{ClientState, second_at}
use Rattle.client_core.specs.Telling.{mount_at}
use Rattle.client_laws.proofs.Asking.{stays_same}
use Rattle.client_laws.proofs.Changed.{said_copies}
use Rattle.client_laws.proofs.Fitting.{fits_begun, fits_evaluated}
use Rattle.client_laws.proofs.MountAgain.{retried}
use Rattle.client_laws.proofs.MountCalls.{DrawsFit, Goes, IsUp, asked, goes_on, goes_on_up, tells, ticks}
use Rattle.client_laws.proofs.MountHears.{Comes, Heard, Hearing, hears, kept_seal}
use Rattle.client_laws.proofs.MountMoves.{Post, any, IsKept, Runs, kept, mount_in, none, reshaped, rests, runs_then, same_seal}
use Rattle.client_laws.proofs.MountParts.{copies_are, kept_said}
use Rattle.client_laws.proofs.MountRuns.{AllFit}
use Rattle.client_laws.proofs.RunKinds as kinds
use Rattle.client_laws.proofs.RunKinds.{Anew, Both, IsOf, Kind, OnceMore, SetsUp, Silent, GoesInOrder, Whole, again_ordered, anew_ordered, hears_anew, hears_both, setup_anew, silent_anew, silent_both, silent_silent, whole_of, whole_ordered}
use Rattle.client_laws.specs.Bounds.CopyLaws.{begun_fits, evaluated_fits, queued_fits}
use Rattle.client_laws.specs.Bounds.DeedLaws.{replied_fits}
use Rattle.client_laws.specs.Bounds.DeskLaws.{all_said_fits, copied_fits}
use Rattle.client_laws.specs.Bounds.GoLaws.{ActingIsFit, queue_at_fits, with_queue_fits}
use Rattle.client_laws.specs.Bounds.Known.{ClientIsFit, DeskIsFit, PartsAreFit, SettingIsFit, SpecIsFit}
use Rattle.client_laws.specs.CallerLaws.{PurposesFit, IsMountRun, StartsOwn, above_by, acts_in, call_if, calls_to, goes_to, is_call, taken_in}
use Rattle.client_laws.specs.Fits.{TurnIsFit}
use Rattle.client_laws.specs.MountTurns.{IsMountTurn, IsOut, IsOwnAnswer, IsStrange, IsTaken, TakesBytes}
use Rattle.client_laws.specs.Order.{count_behind, counted_if, number_if, numbers_in, numbers_to}
use Rattle.client_laws.specs.Turns.{IsTurn, MayTurn, Turn, Asks, Begins, Hears, Retries, Ticks, Works}
use Rattle.client_site.specs.declared.site.Site.{Site}
use Rattle.client_steps.specs.Acting.{Acting, GoesOn, on_desk}
use Rattle.client_steps.specs.Acting.{queue_at}
use Rattle.client_steps.specs.Commands as commands
use Rattle.client_steps.specs.Commands.{ticked}
use Rattle.client_steps.specs.CopySteps.{all_copies}
use Rattle.client_steps.specs.Desks.{posted, said_by}
use Rattle.client_steps.specs.Replies.{taken, under_seal}
use Rattle.client_steps.specs.declared.desk.Desk.{Desk}
use Rattle.copy_privs.specs.Told.{privilege_told}
use Rattle.gss_ctx.specs.Table.{ContextTable}
use Rattle.gss_mech.specs.Tokens.{IsSized}
use Rattle.mount.specs.State.{Mounted}
use Rattle.mount.specs.Taking.{Means}
use Rattle.nfs_base.specs.declared.copy_spec.CopySpec.{CopySpec}
use Rattle.nfs_base.specs.declared.seal.Seal.{Seal}
use Rattle.nfs_base.specs.declared.side.Side.{Side}
use Rattle.nfs_base.specs.declared.side.Side.TheVariants.{Source, Dest}
use Rattle.nfs_compound.specs.Compounds.{cb_compound_of}
use Rattle.nfs_compound.specs.declared.cb_compound.CbCompound.{CbCompound}
use Rattle.outbox.specs.declared.note.Dropped.TheVariants.{Unread}
use Rattle.outbox.specs.declared.outgoing.Outbox.{Outbox}
use Rattle.outbox.specs.declared.outgoing.Outgoing.{Outgoing}
use Rattle.rpc_calls.specs.Answers.{accepted_seal}
use Rattle.rpc_calls.specs.Judging.{judged_of}
use Rattle.rpc_calls.specs.Making.{made_seal}
use Rattle.rpc_calls.specs.declared.call.Call.{Call}
use Rattle.rpc_calls.specs.declared.call.Judged.{Judged}
use Rattle.rpc_calls.specs.declared.call.Judged.TheVariants as judged
use Rattle.rpc_calls.specs.declared.call.TheConstants.Program as programs
use Rattle.rpc_calls.specs.declared.call.Under.{Under}
use Rattle.rpc_calls.specs.declared.call.What.TheVariants as whats
use Rattle.rpc_calls.specs.declared.call.What.{What}
use Rattle.rpc_calls.specs.declared.contexts.InitAnswer.{InitAnswer}
use Rattle.rpc_calls.specs.declared.numbers.TheConstants.{RPCSEC_GSS_PRIVILEGE_PROBLEM}
use Rattle.rpc_msg.specs.Heads as heads
use Rattle.rpc_msg.specs.declared.reply.Denial.{Denial}
use Rattle.rpc_msg.specs.declared.reply.Denial.TheVariants.{Auth, Mismatch}
use Rattle.rpc_msg.specs.declared.reply.Stat.{Stat}
use Rattle.rpc_msg.specs.declared.reply.Stat.TheVariants.{Garbage}
use Rattle.streams.specs.declared.draws.Drawn.{Drawn}
use Rattle.streams.specs.declared.draws.Drawn.TheVariants.{Got, Failed}
use Rattle.wire_model.specs.Wire.{Acts, Purpose}
use Rattle.wire_spelling.specs.ReadLaws.{xid_small}
use Rattle.wire_spelling.specs.Replies.{is_reply}

reply_owner : (table : ContextTable ℕ) (under : Option Under) → IsSealedBy table.owner (reply_seal table under)
reply_owner table None = unsealed table.owner
reply_owner table (Some under) = under_owner table under.number under.seq

-- ---- how a step ends

-- no call is among these
neither : (b : Bool) (one : Outgoing) → flat_map (λ (x : Outgoing). call_if (b && false) x) (one ∷ []) ≡ []
neither true one = refl
neither false one = refl

no_call : (side : Side) (one : Outgoing) → is_call one.label ≡ false → calls_to side (one ∷ []) ≡ []
no_call side one e = ap (λ (b : Bool). call_if (goes_to side one.to && b) one ++ []) e ∙ neither (goes_to side one.to) one

no_number : (side : Side) (n : ℕ) (one : Outgoing) → is_call one.label ≡ false → numbers_to side n (one ∷ []) ≡ []
no_number side n one e = ap (λ (b : Bool). number_if (goes_to side one.to && b) (n + 1) ++ []) e ∙ not_both (goes_to side one.to) n
  where
    not_both : (b : Bool) (n : ℕ) → number_if (b && false) (n + 1) ++ [] ≡ []
    not_both true n = refl
    not_both false n = refl

uncounted : (n : ℕ) (one : Outgoing) → is_call one.label ≡ false → n ≡ count_behind n (one ∷ [])
uncounted n one e = sym (ap (λ (b : Bool). counted_if b n) e)

kept_begun : (side : Side) (t : Copies) (d : Desk) → IsKept side d (record d { copies = t })
kept_begun Source t d = record { mount = refl; calls = refl; sent = refl; accepted = refl }
kept_begun Dest t d = record { mount = refl; calls = refl; sent = refl; accepted = refl }

pub mount_begins : {M : Type 0} (side : Side) (now : ℕ) (c : ClientState M) → mount_in side (desk_at now c) ≡ mount_at side c
mount_begins Source now c = refl
mount_begins Dest now c = refl

mount_ends : {M : Type 0} (side : Side) (a : Acting) (back : ContextTable ℕ) (c : ClientState M) → mount_in side a.desk ≡ mount_at side (settled a back c)
mount_ends Source a back c = refl
mount_ends Dest a back c = refl

mount_stays : {M : Type 0} (side : Side) (c d : ClientState M) → d.source ≡ c.source → d.dest ≡ c.dest → mount_at side d ≡ mount_at side c
mount_stays Source c d source dest = ap (λ (s : Site). s.mount) source
mount_stays Dest c d source dest = ap (λ (s : Site). s.mount) dest

denial_is : (why : Denial) → is_call (denial_label why) ≡ false
denial_is (Auth why) = refl
denial_is (Mismatch low high) = refl

posted_runs : (who : Identity) (means : Means) (boot : ℕ) (post : Post means.mic) (side : Side) (one : Outgoing) (d : Desk) → is_call one.label ≡ false → post.of one
    → Runs who means boot post any Silent side [] same_seal d (posted one d)
posted_runs who means boot post Source one d e own =
    rests who means boot post any Silent tt Source same_seal d _ (one ∷ []) refl (λ small. omega arith) refl (no_call Source one e) (inr (e, own), tt) (λ small. uncounted d.calls one e)
    (no_number Source d.calls one e) refl (λ purpose given fit. fit)
posted_runs who means boot post Dest one d e own =
    rests who means boot post any Silent tt Dest same_seal d _ (one ∷ []) refl (λ small. omega arith) refl (no_call Dest one e) (inr (e, own), tt) (λ small. uncounted d.calls one e)
    (no_number Dest d.calls one e) refl (λ purpose given fit. fit)

-- Where it is sure, the client is fit, what it is told to do is within bounds and what comes is bytes.
pub record Sure {M : Type 0} (ways : Ways) (turn : Turn) (c : ClientState M) : Type 1 where
  pub is : Type 0
  pub codes : is → GivesBytes ways.means.mic
  pub client : is → ClientIsFit c
  pub told : is → TurnIsFit turn

-- what a client answers is sealed under its own contexts, and a reply
abbrev pub Answers : {M : Type 0} (ways : Ways) (turn : Turn) (c : ClientState M) → Sure ways turn c → Post ways.means.mic
Answers ways turn c known = record { of = IsOwnAnswer ways.means.mic turn c.back.owner; sure = known.is; codes = known.codes }

none_of : {A : Type 0} (seal : Seal) → None ≡ Some seal → A
none_of seal e = absurd cc

module _ {M : Type 0} (who : Identity) (ways : Ways) (boot : ℕ) (counted : Counted) (side : Side) (purpose : ℕ → Purpose) (turn : Turn) (c : ClientState M) (known : Sure ways turn c) where
  -- a turn, which keeps to the bounds where it is sure
  pub record IsFitTurn (end : ClientState M × Outbox) : Type 0 where
    pub turns : IsMountTurn who ways boot side purpose turn c end.0 end.1
    pub fit : known.is → AllFit ways.means turns.steps (mount_at side c)

  abbrev pub At : ClientState M × Outbox → Type 0
  At end = end.0.calls < 4294967295 → IsFitTurn end

  abbrev pub Starts : {W : Type 0} → (W → Drawn → W → Type 0) → Type 0
  Starts {W} gives = StartsOwn who ways gives × (known.is → DrawsFit who ways.means boot (Answers ways turn c known) counted side ways.started gives)

  abbrev Fits : Acting → Type 0
  Fits a = known.is → ActingIsFit a

  setting_fits : known.is → SettingIsFit c.setting
  setting_fits sure = (known.client sure).setting

  desk_fits : known.is → PartsAreFit c.source c.dest c.copies
  desk_fits sure = (known.client sure).parts

  acting_fits : (now : ℕ) → Fits (acting_at now c)
  acting_fits now sure = ((known.client sure).parts, (known.client sure).queues)

  abbrev Run : Kind → List (List ℕ × Option Seal) → (Option Seal → Option Seal) → Desk → Desk → Type 0
  Run k taken seal d e = Runs who ways.means boot (Answers ways turn c known) any k side taken seal d e

  abbrev Does : Desk → Desk → Type 0
  Does d e = Comes who ways.means boot (Answers ways turn c known) counted side d e

  -- nothing of the mount changes, and no call goes out
  idle : (end : ClientState M × Outbox) → mount_at side end.0 ≡ mount_at side c → end.0.calls ≡ c.calls → end.0.copies ≡ c.copies
      → calls_to side end.1.sent ≡ [] → numbers_to side c.calls end.1.sent ≡ [] → count_behind c.calls end.1.sent ≡ c.calls
      → AllByRecursion (IsOut ways.means.mic turn c.back.owner) end.1.sent → IsStrange c.back.owner side turn end.1.accepted → At end
  idle end same_mount calls copies sent numbers counts goes_out strange = λ small. record {
    fit = λ sure. tt;
    turns = record {
      after = purpose;
      steps = [];
      run = (
        ap (λ (n : ℕ). above_by boot n purpose end.0.copies) calls ∙ ap (λ (t : Copies). above_by boot c.calls purpose t) copies,
        same_mount,
      );
      sent = sym sent;
      asks = tt;
      fits = λ fit. subst (PurposesFit side purpose) (sym copies) fit;
      taken = inl (refl, strange);
      order = inr tt;
      none_anew = tt;
      numbers = sym numbers;
      counts = calls ∙ sym counts;
      goes_out = goes_out;
    };
  }

  silent : (end : ClientState M × Outbox) → end.0.source ≡ c.source → end.0.dest ≡ c.dest → end.0.calls ≡ c.calls → end.0.copies ≡ c.copies → end.1.sent ≡ [] → end.1.accepted ≡ None → At end
  silent end source dest calls copies sent accepted =
      idle end (mount_stays side c end.0 source dest) calls copies (ap (calls_to side) sent) (ap (numbers_to side c.calls) sent) (ap (count_behind c.calls) sent)
      (subst (AllByRecursion (IsOut ways.means.mic turn c.back.owner)) (sym sent) tt) (λ seal is. none_of seal (sym accepted ∙ is))

  nothing : At (undrawn c)
  nothing = silent (undrawn c) refl refl refl refl refl refl

  answers : (end : ClientState M × Outbox) (one : Outgoing) → end.0.source ≡ c.source → end.0.dest ≡ c.dest → end.0.calls ≡ c.calls → end.0.copies ≡ c.copies
      → end.1.sent ≡ one ∷ [] → is_call one.label ≡ false → IsOwnAnswer ways.means.mic turn c.back.owner one → IsSealedBy c.back.owner end.1.accepted → At end
  answers end one source dest calls copies sent uncalled own accepted =
      idle end (mount_stays side c end.0 source dest) calls copies (ap (calls_to side) sent ∙ no_call side one uncalled) (ap (numbers_to side c.calls) sent ∙ no_number side c.calls one uncalled)
      (ap (count_behind c.calls) sent ∙ sym (uncounted c.calls one uncalled)) (subst (AllByRecursion (IsOut ways.means.mic turn c.back.owner)) (sym sent) (inr (uncalled, own), tt))
      (λ seal is. inl (accepted seal is))

  ended_at : (now : ℕ) (a : Acting) (back : ContextTable ℕ) (taken : List (List ℕ × Option Seal)) (seal : Option Seal → Option Seal) (k : Kind)
      → ((steps : List MountStep) (m : Mounted) → IsOf k ways.means steps m → GoesInOrder ways.means steps m)
      → Run k taken seal (desk_at now c) a.desk → IsTaken c.back.owner side turn a.desk.out.accepted taken → At (settled a back c, given a)
  ended_at now a back taken seal k shape runs is = λ small.
      let r = runs.ran purpose small in
      let begins = mount_begins side now c in
      let goes = shape r.steps (mount_in side (desk_at now c)) r.order in
      record {
        fit = λ sure. subst (AllFit ways.means r.steps) begins (r.fit sure);
        turns = record {
          after = r.after;
          steps = r.steps;
          run =
              subst (λ (m : Mounted). IsMountRun who ways.means r.steps (above_by boot c.calls purpose c.copies) m (above_by boot a.desk.calls r.after a.desk.copies)
              (mount_at side (settled a back c))) begins
              (subst (λ (m : Mounted). IsMountRun who ways.means r.steps (above_by boot c.calls purpose c.copies) (mount_in side (desk_at now c))
              (above_by boot a.desk.calls r.after a.desk.copies) m) (mount_ends side a back c) r.run);
          sent =
              subst (λ (m : Mounted). flat_map (λ (x : Acts). x.out) (acts_in ways.means r.steps m) ≡ calls_to side a.desk.out.sent) begins
              (r.outs ∙ ap (calls_to side) (sym runs.sent));
          asks = r.asks a.desk.copies (λ loud. stays_same a.desk.copies a.desk.copies refl);
          fits = λ fit. runs.fits purpose small tt fit;
          taken =
              subst (λ (m : Mounted). IsTaken c.back.owner side turn a.desk.out.accepted (flat_map taken_in (acts_in ways.means r.steps m))) begins
              (subst (IsTaken c.back.owner side turn a.desk.out.accepted) (sym r.takes) is);
          order = subst (IsOrdered ways.means r.steps) begins goes.order;
          none_anew = goes.none_anew;
          numbers =
              subst (λ (m : Mounted). numbers_in ways.means r.steps m ≡ numbers_to side c.calls a.desk.out.sent) begins
              (r.numbers ∙ ap (numbers_to side c.calls) (sym runs.sent));
          counts = runs.counts small ∙ ap (count_behind c.calls) (sym runs.sent);
          goes_out = subst (AllByRecursion (IsOut ways.means.mic turn c.back.owner)) (sym runs.sent) runs.posted;
        };
      }

  -- what was done goes on: nothing goes out before, or the setup goes on and stays
  gone_on : {W : Type 0} (gives : W → Drawn → W → Type 0) (does a : Acting) (v w : W) (seal : Option Seal → Option Seal) (d middle : Desk)
      → Run SetsUp [] seal d middle → Goes who ways.means boot (Answers ways turn c known) counted side SetsUp middle does.desk → IsUp who ways.means boot (Answers ways turn c known) counted side does.desk
      → Starts gives → Fits does → GoesOn c.setting ways.means.mic ways.started gives does v w (Some a) → Run Anew [] seal d a.desk
  gone_on gives does a v w seal d middle first deed up own fits on =
      let more = goes_on_up who ways.means boot (Answers ways turn c known) counted side c.setting ways.started gives does v w a own.0 up setting_fits own.1 fits on in
      let rest = runs_then who ways.means boot (Answers ways turn c known) SetsUp Anew Anew setup_anew refl (λ loud. loud) side [] [] same_seal same_seal middle does.desk a.desk deed more in
      runs_then who ways.means boot (Answers ways turn c known) SetsUp Anew Anew setup_anew refl (λ loud. loud) side [] [] seal same_seal d middle a.desk first rest

  lost_on : {W : Type 0} (gives : W → Drawn → W → Type 0) (does a : Acting) (v w : W) (seal : Option Seal → Option Seal) (d middle : Desk)
      → Run Silent [] seal d middle → Goes who ways.means boot (Answers ways turn c known) counted side Silent middle does.desk
      → Starts gives → Fits does → GoesOn c.setting ways.means.mic ways.started gives does v w (Some a) → Run Both [] seal d a.desk
  lost_on gives does a v w seal d middle first deed own fits on =
      let more = goes_on who ways.means boot (Answers ways turn c known) counted side c.setting ways.started gives does v w a own.0 setting_fits own.1 fits on in
      let front = runs_then who ways.means boot (Answers ways turn c known) Silent Silent Silent silent_silent refl (λ loud. loud) side [] [] seal same_seal d middle does.desk first deed in
      runs_then who ways.means boot (Answers ways turn c known) Silent Both Both silent_both refl (λ loud. loud) side [] [] seal same_seal d does.desk a.desk front more

  -- where no record is taken
  unheard : {W : Type 0} (gives : W → Drawn → W → Type 0) (does a : Acting) (v w : W) (seal : Option Seal → Option Seal) (d middle : Desk)
      → Run Silent [] seal d middle → Does middle does.desk → Starts gives → Fits does → GoesOn c.setting ways.means.mic ways.started gives does v w (Some a)
      → Run Whole [] seal d a.desk
  unheard gives does a v w seal d middle first (inl deed) own fits on =
      reshaped who ways.means boot (Answers ways turn c known) Both Whole (λ loud. loud) (λ steps m. whole_of ways.means steps m) side [] seal d a.desk
      (lost_on gives does a v w seal d middle first deed own fits on)
  unheard gives does a v w seal d middle first (inr deed) own fits on =
      let rest = gone_on gives does a v w same_seal middle middle (none who ways.means boot (Answers ways turn c known) SetsUp tt side middle) deed.0 deed.1 own fits on in
      reshaped who ways.means boot (Answers ways turn c known) Both Whole (λ loud. loud) (λ steps m. whole_of ways.means steps m) side [] seal d a.desk
      (runs_then who ways.means boot (Answers ways turn c known) Silent Anew Both silent_anew refl (λ loud. loud) side [] [] seal same_seal d middle a.desk first rest)

  -- where one is
  heard_by : {W : Type 0} (gives : W → Drawn → W → Type 0) (does a : Acting) (v w : W) (there : Side) (message : List ℕ) (d : Desk)
      → (h : Heard who ways.means boot (Answers ways turn c known) counted side there message d does.desk) (root : Bool) → h.root ≡ root → Does h.middle does.desk
      → Starts gives → Fits does → GoesOn c.setting ways.means.mic ways.started gives does v w (Some a)
      → Run Whole ((message, h.accepted) ∷ []) (λ old. h.accepted) d a.desk
  heard_by gives does a v w there message d h root is (inr deed) own fits on =
      let rest = gone_on gives does a v w (λ old. h.accepted) h.behind h.middle (h.sealed SetsUp tt) deed.0 deed.1 own fits on in
      runs_then who ways.means boot (Answers ways turn c known) (kinds.Hears h.root) Anew Whole (hears_anew h.root) refl (λ loud. loud) side ((message, h.accepted) ∷ []) [] same_seal (λ old. h.accepted)
      d h.behind a.desk h.takes rest
  heard_by gives does a v w there message d h true is (inl deed) own fits on =
      let deed = h.rooted is in
      let rest = gone_on gives does a v w (λ old. h.accepted) h.behind h.middle (h.sealed SetsUp tt) deed.0 deed.1 own fits on in
      runs_then who ways.means boot (Answers ways turn c known) (kinds.Hears h.root) Anew Whole (hears_anew h.root) refl (λ loud. loud) side ((message, h.accepted) ∷ []) [] same_seal (λ old. h.accepted)
      d h.behind a.desk h.takes rest
  heard_by gives does a v w there message d h false is (inl deed) own fits on =
      let rest = lost_on gives does a v w (λ old. h.accepted) h.behind h.middle (h.sealed Silent tt) deed own fits on in
      let takes = subst (λ (root : Bool). Run (kinds.Hears root) ((message, h.accepted) ∷ []) same_seal d h.behind) is h.takes in
      runs_then who ways.means boot (Answers ways turn c known) (kinds.Hears false) Both Whole hears_both refl (λ loud. loud) side ((message, h.accepted) ∷ []) [] same_seal (λ old. h.accepted)
      d h.behind a.desk takes rest

  step_to : {W : Type 0} (gives : W → Drawn → W → Type 0) (now : ℕ) (does : Acting) (back : Acting → ContextTable ℕ) (v w : W) (to : Option Acting)
      → (taken : List (List ℕ × Option Seal)) (seal : Option Seal → Option Seal)
      → ((a : Acting) → GoesOn c.setting ways.means.mic ways.started gives does v w (Some a) → Run Whole taken seal (desk_at now c) a.desk)
      → IsTaken c.back.owner side turn (seal None) taken
      → GoesOn c.setting ways.means.mic ways.started gives does v w to → At (ended_by to back c)
  step_to gives now does back v w None taken seal runs is on = nothing
  step_to gives now does back v w (Some a) taken seal runs is on =
      let all = runs a on in
      ended_at now a (back a) taken seal Whole (whole_ordered ways.means) all (subst (λ (o : Option Seal). IsTaken c.back.owner side turn o taken) (sym all.accepted) is)

  steps_by : {W : Type 0} (gives : W → Drawn → W → Type 0) (now : ℕ) (does : Acting) (back : Acting → ContextTable ℕ) (v w : W) (end : ClientState M × Outbox)
      → (taken : List (List ℕ × Option Seal)) (seal : Option Seal → Option Seal)
      → ((to : Option Acting) (a : Acting) → GoesOn c.setting ways.means.mic ways.started gives does v w (Some a) → Run Whole taken seal (desk_at now c) a.desk)
      → IsTaken c.back.owner side turn (seal None) taken → IsStep ways gives does back c v w end → At end
  steps_by gives now does back v w end taken seal runs is step =
      subst At (sym step.is) (step_to gives now does back v w step.to taken seal (runs step.to) is step.goes_on)

  -- a step in which nothing is taken here
  steps_at : {W : Type 0} (gives : W → Drawn → W → Type 0) (now : ℕ) (does : Acting) (back : Acting → ContextTable ℕ) (v w : W) (end : ClientState M × Outbox)
      → (seal : Option Seal → Option Seal) (middle : Desk) → Run Silent [] seal (desk_at now c) middle → Does middle does.desk
      → IsStrange c.back.owner side turn (seal None) → Starts gives → Fits does → IsStep ways gives does back c v w end → At end
  steps_at gives now does back v w end seal middle first deed strange own fits step =
      steps_by gives now does back v w end [] seal (λ to a on. unheard gives does a v w seal (desk_at now c) middle first deed own fits on) (inl (refl, strange)) step

  -- nothing is taken, and nothing is accepted
  unaccepted : IsStrange c.back.owner side turn None
  unaccepted seal is = none_of seal is

  untaken : IsTaken c.back.owner side turn None []
  untaken = inl (refl, unaccepted)

  done_nothing : (d : Desk) → Does d d
  done_nothing d = inl (none who ways.means boot (Answers ways turn c known) Silent tt side d)

  -- ---- commands

  begins_by : {W : Type 0} (gives : W → Drawn → W → Type 0) (j : ℕ) (spec : CopySpec) (now : ℕ) (drawn : Drawn) (u v w : W) (end : ClientState M × Outbox)
      → Starts gives → gives u drawn v → (known.is → SpecIsFit spec) → IsBegunBy drawn ways gives j spec now c v w end → At end
  begins_by gives j spec now (Got secret) u v w end own drew fit step =
      let d = desk_at now c in
      let e = begun_with j spec secret d in
      steps_at gives now (on_desk (begun_with j spec secret) (acting_at now c)) (λ a. c.back) v w end same_seal e
      (kept who ways.means boot (Answers ways turn c known) Silent tt side d e (kept_begun side (with_begun j spec secret d.copies) d) (λ p fit. fits_begun side p j spec secret d.copies fit))
      (done_nothing e) unaccepted own
      (λ sure.
      let c_fits = known.client sure in
      let table = begun_fits j spec secret c.copies (fit sure) ((own.1 sure).0 u v secret drew).are_bytes c_fits.parts.table in
      (copied_fits (with_begun j spec secret c.copies) d table c_fits.parts, c_fits.queues)) step
  begins_by gives j spec now Failed u v w end own drew fit step = subst At (sym step.0) nothing

  asks_if : (b : Bool) (j : ℕ) (query : Query) (d : Desk) → nat_lt j MOST_COPIES ≡ b → (known.is → DeskIsFit d) → Run Anew [] same_seal d (asked_if b ways.means.mic j query d)
  asks_if true j query d e h = (asked who ways.means boot (Answers ways turn c known) counted side j query d (let lt = ltb-true j MOST_COPIES e in omega arith) h).runs
  asks_if false j query d e h = (tells who ways.means boot (Answers ways turn c known) counted side Anew tt _ d).runs

  -- ---- a record

  -- a CB_COMPOUND
  says : (told : List Told) (d : Desk) → Run Silent [] same_seal d (all_said told d)
  says [] d = none who ways.means boot (Answers ways turn c known) Silent tt side d
  says (one ∷ more) d =
      let e = said_by one.copy one.said d in
      runs_then who ways.means boot (Answers ways turn c known) Silent Silent Silent silent_silent refl (λ loud. loud) side [] [] same_seal same_seal d e _
      (kept who ways.means boot (Answers ways turn c known) Silent tt side d e (kept_said side one.copy one.said d.copies d) (λ p fit. subst (PurposesFit side p) (sym (said_copies one.copy one.said d)) fit))
      (says more e)

  calls_back : (there : Side) (call : Call) (compound : CbCompound) (o : Outcome) (d : Desk) → (TakesBytes turn → IsSpoken call)
      → ((p : ℕ → Purpose) → PurposesFit side p d.copies → PurposesFit side p o.copies)
      → Run Silent [] same_seal d (told_of ways.means.mic there call compound o c d)
  calls_back there call compound o d spoken fits =
      let e : Desk = record d { copies = o.copies } in
      let f = all_said o.told e in
      runs_then who ways.means boot (Answers ways turn c known) Silent Silent Silent silent_silent refl (λ loud. loud) side [] [] same_seal same_seal d e _
      (kept who ways.means boot (Answers ways turn c known) Silent tt side d e (kept_begun side o.copies d) fits)
      (runs_then who ways.means boot (Answers ways turn c known) Silent Silent Silent silent_silent refl (λ loud. loud) side [] [] same_seal same_seal e f _ (says o.told e)
      (posted_runs who ways.means boot (Answers ways turn c known) side _ f refl (reply_owner c.back call.under, λ sized bytes. result_reply_is ways.means.mic c.back call _ sized (spoken bytes).fits)))

  -- what is known of a call once what comes is bytes
  abbrev Spoken : Call → Type 0
  Spoken call = TakesBytes turn → IsSpoken call

  fails : (call : Call) (failure : Stat) (side_called : Side) (second : ℕ) → (TakesBytes turn → IsSpoken call × heads.stat.Fits failure) → At (failed ways.means.mic second side_called call failure c)
  fails call failure side_called second spoken =
      answers (failed ways.means.mic second side_called call failure c) _ refl refl refl refl refl refl
      (unsealed c.back.owner, λ sized bytes. let s = spoken bytes in failure_reply_is ways.means.mic c.back call failure sized s.0.fits s.1) (accepted_owner c.back call)

  denies : (call : Call) (why : Denial) (side_called : Side) (second : ℕ) → (TakesBytes turn → IsSpoken call × heads.denial.Fits why) → At (denied second side_called call why c)
  denies call why side_called second spoken =
      answers (denied second side_called call why c) _ refl refl refl refl refl (denial_is why)
      (unsealed c.back.owner, λ sized bytes. let s = spoken bytes in denial_reply_is call why s.0.fits s.1) (accepted_owner c.back call)

  compounds : {W : Type 0} (gives : W → Drawn → W → Type 0) (there : Side) (now : ℕ) (call : Call) (o : Result CbCompound ℕ) (v w : W) (end : ClientState M × Outbox)
      → Spoken call → Starts gives → IsCompound o ways gives now there call c v w end → At end
  compounds gives there now call (Err at) v w end spoken own step =
      subst At (sym step.0) (fails call Garbage there (second_at now c) (λ bytes. (spoken bytes, garbage_fits)))
  compounds gives there now call (Ok compound) v w end spoken own step =
      let d = desk_at now c in
      let sealed = under_seal (accepted_seal c.back call) d in
      let e = called_back ways.means.mic there call compound c d in
      steps_at gives now (on_desk (called_back ways.means.mic there call compound c) (acting_at now c)) _ v w end (λ old. accepted_seal c.back call) e
      (runs_then who ways.means boot (Answers ways turn c known) Silent Silent Silent silent_silent refl (λ loud. loud) side [] [] (λ old. accepted_seal c.back call) same_seal d sealed e
      (kept_seal Silent tt side (accepted_seal c.back call) d who ways.means boot (Answers ways turn c known))
      (calls_back there call compound (evaluated (session_under call.under c) compound c.copies) sealed spoken (λ p fit. fits_evaluated side p (session_under call.under c) compound c.copies fit)))
      (done_nothing e) (λ seal is. inl (accepted_owner c.back call seal is)) own
      (λ sure.
      let c_fits = known.client sure in
      let o = evaluated (session_under call.under c) compound c.copies in (
        all_said_fits o.told (record sealed { copies = o.copies })
            (copied_fits o.copies sealed (evaluated_fits (session_under call.under c) compound c.copies c_fits.parts.table) c_fits.parts),
        c_fits.queues,
      )) step

  creates : (misspelt : Bool) (second : ℕ) (there : Side) (call : Call) → Spoken call → At (created misspelt ways.means.mic second there call c)
  creates true second there call spoken = fails call Garbage there second (λ bytes. (spoken bytes, garbage_fits))
  creates false second there call spoken =
      answers (created false ways.means.mic second there call c) _ refl refl refl refl refl refl
      (unsealed c.back.owner, λ sized bytes. denial_reply_is call (Auth RPCSEC_GSS_PRIVILEGE_PROBLEM) (spoken bytes).fits (auth_fits RPCSEC_GSS_PRIVILEGE_PROBLEM (lit< tt)))
      (accepted_owner c.back call)

  inits : (failed : Bool) (second : ℕ) (there : Side) (told : InitAnswer) (back : ContextTable ℕ) → IsSealedBy c.back.owner (made_seal back told.made)
      → (IsSized ways.means.mic → TakesBytes turn → is_reply told.bytes ≡ true) → At (inited_unless failed second there told back c)
  inits true second there told back own reply = nothing
  inits false second there told back own reply = answers (inited_unless false second there told back c) _ refl refl refl refl refl refl (own, reply) (unsealed c.back.owner)

  whats_at : {W : Type 0} (gives : W → Drawn → W → Type 0) (there : Side) (now : ℕ) (call : Call) (what : What) (v w : W) (end : ClientState M × Outbox)
      → Spoken call → call.what ≡ what → Starts gives → IsWhat what ways gives now there call c v w end → At end
  whats_at gives there now call (whats.Dropped why) v w end spoken is own step =
      subst At (sym step.0) (silent (call_dropped (second_at now c) call why c) refl refl refl refl refl refl)
  whats_at gives there now call (whats.Denied why) v w end spoken is own step =
      subst At (sym step.0) (denies call why there (second_at now c) (λ bytes. (spoken bytes, subst IsSaid is (spoken bytes).said)))
  whats_at gives there now call (whats.Failed failure) v w end spoken is own step =
      subst At (sym step.0) (fails call failure there (second_at now c) (λ bytes. (spoken bytes, subst IsSaid is (spoken bytes).said)))
  whats_at gives there now call whats.Null v w end spoken is own step =
      subst At (sym step.0)
      (answers (nulled ways.means.mic (second_at now c) there call c) _ refl refl refl refl refl refl
      (reply_owner c.back call.under, λ sized bytes. result_reply_is ways.means.mic c.back call [] sized (spoken bytes).fits) (accepted_owner c.back call))
  whats_at gives there now call (whats.Init token) v w end spoken is own step =
      subst At (sym step.is)
      (inits step.told.draw_failed (second_at now c) there step.told step.back
      (inited_owner ways.means.mic (ways.accepted token) gives (second_at now c) _ c.back step.back v w step.answers.answer step.told.made step.answers.inits)
      (λ sized bytes.
      ap (λ (told : InitAnswer). is_reply told.bytes) step.answers.told_is
      ∙ init_reply_is ways.means.mic (ways.accepted token) gives call.head.xid (second_at now c) _ c.back step.back v w step.answers.answer sized
      (xid_small call.head (spoken bytes).fits) step.answers.inits))
  whats_at gives there now call (whats.Create name privilege) v w end spoken is own step =
      subst At (sym step.0) (creates (is_misspelt (privilege_told name privilege)) (second_at now c) there call spoken)
  whats_at gives there now call whats.Destroy v w end spoken is own step =
      subst At (sym step.0)
      (answers (destroyed ways.means.mic (second_at now c) there call c) _ refl refl refl refl refl refl
      (reply_owner c.back call.under, λ sized bytes. result_reply_is ways.means.mic c.back call [] sized (spoken bytes).fits) (accepted_owner c.back call))
  whats_at gives there now call (whats.Compound args) v w end spoken is own step = compounds gives there now call (cb_compound_of args) v w end spoken own step

  -- what a reply does
  replies : {W : Type 0} (gives : W → Drawn → W → Type 0) (there : Side) (message : List ℕ) (now : ℕ) (does : Acting) (back : Acting → ContextTable ℕ) (v w : W)
      (end : ClientState M × Outbox) → turn ≡ Hears there message now → Hearing who ways.means boot (Answers ways turn c known) counted side there message (desk_at now c) does.desk
      → Starts gives → Fits does → IsStep ways gives does back c v w end → At end
  replies gives there message now does back v w end turn_is (inl h) own fits step =
      steps_at gives now does back v w end h.seal h.middle h.first h.deed
      (λ seal is. elim (h.is) [
        | inl none_accepted ↦ none_of seal (sym (h.seal_is ∙ none_accepted) ∙ is)
        | inr elsewhere ↦ inr (record { there = there; message = message; now = now; turn_is = turn_is; elsewhere = elsewhere })
      ]) own fits step
  replies gives there message now does back v w end turn_is (inr h) own fits step =
      steps_by gives now does back v w end ((message, h.accepted) ∷ []) (λ old. h.accepted)
      (λ to a on. heard_by gives does a v w there message (desk_at now c) h h.root refl h.deed own fits on)
      (inr (record { message = message; now = now; turn_is = turn_is ∙ ap (λ (x : Side). Hears x message now) (sym h.here); is = refl })) step

  judges : {W : Type 0} (gives : W → Drawn → W → Type 0) (there : Side) (message : List ℕ) (now : ℕ) (o : Judged) (v w : W) (end : ClientState M × Outbox)
      → turn ≡ Hears there message now → judged_of ways.means.mic (second_at now c) programs.CALLBACK message c.back ≡ o
      → Starts gives → IsJudged o ways gives there message now c v w end → At end
  judges gives there message now judged.Unread v w end is judged_is own step =
      subst At (sym step.0) (silent (dropping (second_at now c) c.back Unread c) refl refl refl refl refl refl)
  judges gives there message now judged.Reply v w end is judged_is own step =
      replies gives there message now (heard ways there message now c) _ v w end is
      (hears who ways.means boot (Answers ways turn c known) counted side _ c.setting.me _ there message (acting_at now c) (λ sure. subst TurnIsFit is (known.told sure))
      (λ sure. (known.client sure).setting.me) desk_fits) own
      (λ sure.
      replied_fits ways.means message (subst TurnIsFit is (known.told sure)) (known.codes sure) c.setting.me (known.client sure).setting.me _ _ there (acting_at now c)
      (acting_fits now sure)) step
  judges gives there message now (judged.Call call) v w end is judged_is own step =
      whats_at gives there now call call.what v w end
      (λ bytes. judged_says ways.means.mic (second_at now c) programs.CALLBACK message c.back call (lit< tt) (subst TakesBytes is bytes) judged_is) refl own step

pub turn_runs : {M W : Type 0} (counted : Counted) (ways : Ways) (gives : W → Drawn → W → Type 0) (who : Identity) (boot : ℕ) (side : Side) (purpose : ℕ → Purpose) (turn : Turn)
    (c d : ClientState M) (v w : W) (out : Outbox) (known : Sure ways turn c) → Starts who ways boot counted side purpose turn c known gives → MayTurn turn c
    → IsTurn ways gives turn c v w (d, out) → d.calls < 4294967295 → IsFitTurn who ways boot counted side purpose turn c known (d, out)
turn_runs counted ways gives who boot side purpose (Begins j spec now) c d v w out known own may step =
    begins_by who ways boot counted side purpose (Begins j spec now) c known gives j spec now step.drawn v step.middle w (d, out) own step.gave known.told step.is
turn_runs counted ways gives who boot side purpose (Asks query j now) c d v w out known own may step =
    let turn = Asks query j now in
    let a = on_desk (asked_if (nat_lt j MOST_COPIES) ways.means.mic j query) (acting_at now c) in
    let runs = asks_if who ways boot counted side purpose turn c known (nat_lt j MOST_COPIES) j query (desk_at now c) refl (λ sure. (known.client sure).parts) in
    subst (At who ways boot counted side purpose turn c known) (sym step.0)
    (ended_at who ways boot counted side purpose turn c known now a c.back [] same_seal Anew (anew_ordered ways.means) runs
    (subst (λ (o : Option Seal). IsTaken c.back.owner side turn o []) (sym runs.accepted) (untaken who ways boot counted side purpose turn c known)))
turn_runs counted ways gives who boot side purpose (Works there work now) c d v w out known own may step =
    let turn = Works there work now in
    let e = (with_work there work (acting_at now c)).desk in
    steps_at who ways boot counted side purpose turn c known gives now (with_work there work (acting_at now c)) _ v w (d, out) same_seal (desk_at now c)
    (none who ways.means boot (Answers ways turn c known) Silent tt side (desk_at now c)) (done_nothing who ways boot counted side purpose turn c known (desk_at now c))
    (unaccepted who ways boot counted side purpose turn c known) own
    (λ sure.
    let c_fits = known.client sure in
    let a = acting_at now c in
    (c_fits.parts, with_queue_fits there _ a (queued_fits work (queue_at there a).works (known.told sure) (queue_at_fits there a c_fits.queues)) c_fits.queues)) step
turn_runs counted ways gives who boot side purpose (Ticks now) c d v w out known own may step =
    let turn = Ticks now in
    let runs = (ticks who ways.means boot (Answers ways turn c known) counted side all_copies (desk_at now c) copies_are (λ sure. (known.client sure).parts)).runs in
    subst (At who ways boot counted side purpose turn c known) (sym step.0)
    (ended_at who ways boot counted side purpose turn c known now (on_desk (ticked ways.means.mic all_copies) (acting_at now c)) c.back [] same_seal Anew
    (anew_ordered ways.means) runs
    (subst (λ (o : Option Seal). IsTaken c.back.owner side turn o []) (sym runs.accepted) (untaken who ways boot counted side purpose turn c known)))
turn_runs counted ways gives who boot side purpose (Retries now) c d v w out known own may step =
    let turn = Retries now in
    let runs = (retried who ways.means boot (Answers ways turn c known) counted side (acting_at now c)).runs in
    subst (At who ways boot counted side purpose turn c known) (sym step.0)
    (ended_at who ways boot counted side purpose turn c known now (commands.retried ways.means.mic (acting_at now c)) c.back [] same_seal (OnceMore 0 16)
    (again_ordered 16 ways.means) runs
    (subst (λ (o : Option Seal). IsTaken c.back.owner side turn o []) (sym runs.accepted) (untaken who ways boot counted side purpose turn c known)))
turn_runs counted ways gives who boot side purpose (Hears there message now) c d v w out known own may step =
    judges who ways boot counted side purpose (Hears there message now) c known gives there message now _ v w (d, out) refl refl own step

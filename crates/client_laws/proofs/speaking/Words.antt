-- The laws of the client's word in a step.
use Rattle.std.proofs.Common.{◌≡◌, ◌≢◌, ◌∙◌, ℕ, zero, suc, ◌<◌, get_or, set, Bool, true, false, List, [], ◌∷◌, Option, Some, None, refl, sym, ap, subst, inl, inr, ◌⊎◌}
use Rattle.std.specs.Prelude.{nat_lt, option_map}
use Rattle.std.specs.List.{AllByRecursion}
use Rattle.std.proofs.lemmas.Bool.{cases_eq}
use Rattle.caller_laws.specs.Good.{Identity}
use Rattle.caller_laws.specs.View.{handle_named}
use Rattle.client_copies.specs.Copies.{begun}
use Rattle.client_copies.specs.Laws as said
use Rattle.client_copies.specs.Table.{Copies, copy_at, with_begun}
use Rattle.client_copies.specs.Words.{ran}
use Rattle.client_copies.specs.declared.copy.ClientCopy.{ClientCopy}
use Rattle.client_copies.specs.declared.copy.First.{First}
use Rattle.client_copies.specs.declared.copy.Session.{Session}
use Rattle.client_copies.specs.declared.copy.Stage.{Stage}
use Rattle.client_copies.specs.declared.copy.Stage.TheVariants.{Asked}
use Rattle.client_copies.specs.declared.copy.Step.TheVariants as steps
use Rattle.client_copies.specs.declared.event.Event.{Event}
use Rattle.client_copies.specs.declared.event.Event.TheVariants as events
use Rattle.client_core.specs.Endings.{Ways}
use Rattle.client_core.specs.State.{ClientState}
use Rattle.client_core.specs.Telling.{copy_of}
use Rattle.client_laws.proofs.speaking.Fields.{Coming, IsAnswer, Taking, answer_of, copied_never}
use Rattle.client_laws.proofs.speaking.Hearing.{Reading}
use Rattle.client_laws.proofs.speaking.Mounts.{none_some, some_is}
use Rattle.client_laws.specs.Speaking.SayingLaws.{ExactLaw, IsAmong, StableLaw, exact_among, exact_kept, first_among, stable_kept}
use Rattle.client_laws.proofs.speaking.Told.{first_told, granted_stage, last_stage, last_told, name_told}
use Rattle.client_laws.proofs.speaking.Turns.{below, none_if}
use Rattle.client_laws.specs.Causes.{IsAnswered, ByAcceptance, ByAnswer, ByCallback, ByHeld, ByItself, Cause}
use Rattle.client_laws.specs.Changes.{is_own}
use Rattle.client_laws.specs.Speaking.Carried.{IsCarried, seen}
use Rattle.client_laws.specs.Speaking.Fields.{IsTold}
use Rattle.client_laws.specs.Speaking.Views.{IsSeenAt, first_seen, says_exact, says_stable, word_seen}
use Rattle.client_laws.specs.TableLaws.{copy_kept}
use Rattle.client_laws.specs.TurnLaws.{IsStart, TurnChanges}
use Rattle.client_laws.specs.Turns.{Asks, Begins, Hears, MayTurn, Retries, Ticks, Turn, Works}
use Rattle.client_laws.specs.WholeTurns.{Purposes, acts_of}
use Rattle.client_laws.specs.WordLaws.{Happened, IsFirstTold, IsNamed, Knew}
use Rattle.client_steps.specs.declared.deeds.Deed.TheVariants as deeds
use Rattle.nfs_base.specs.declared.copy_spec.CopySpec.{CopySpec}
use Rattle.nfs_base.specs.declared.job.JobName.{JobName}
use Rattle.nfs_base.specs.declared.seal.End.TheVariants as ends
use Rattle.nfs_base.specs.declared.side.Side.TheVariants.{Source, Dest}
use Rattle.nfs_base.specs.declared.state_id.StateId.{StateId}
use Rattle.outbox.specs.declared.outgoing.Outbox.{Outbox}
use Rattle.wire_meaning.specs.Meaning.{job_named, meaning}
use Rattle.wire_model.specs.CallerLaws.{Takes}
use Rattle.wire_model.specs.CopyLaws.{IsAnswerFor}
use Rattle.wire_model.specs.System.{System}
use Rattle.wire_model.specs.Wire.{Acts, Caller, ForCopy, ForFirst, ForLast, Purpose, Slotted}
use Rattle.wire_model.specs.Word as words
use Rattle.wire_model.specs.WordLaws as laws
use Rattle.wire_spelling.specs.Spelling.{spelling}

-- ---- what is seen of a copy

record SeenFirst (o : Option ClientCopy) (first : words.First) : Type 0 where
  copy : ClientCopy
  is : o ≡ Some copy
  known : First
  known_is : copy.first ≡ Some known
  sees : first_seen known ≡ first

seen_first : (o : Option ClientCopy) (first : words.First) → (word_seen o).first ≡ Some first → SeenFirst o first
seen_first None first e = absurd cc
seen_first (Some copy) first e = by copy.first refl e
  where
    by : (known : Option First) → copy.first ≡ known → option_map first_seen known ≡ Some first → SeenFirst (Some copy) first
    by None is e = absurd cc
    by (Some known) is e = record { copy = copy; is = refl; known = known; known_is = is; sees = some_is (first_seen known) first e }

record SeenName (o : Option ClientCopy) (name : JobName) : Type 0 where
  copy : ClientCopy
  is : o ≡ Some copy
  id : StateId
  id_is : copy.id ≡ Some id
  sees : job_named id ≡ name

seen_name : (o : Option ClientCopy) (name : JobName) → (word_seen o).name ≡ Some name → SeenName o name
seen_name None name e = absurd cc
seen_name (Some copy) name e = by copy.id refl e
  where
    by : (id : Option StateId) → copy.id ≡ id → option_map job_named id ≡ Some name → SeenName (Some copy) name
    by None is e = absurd cc
    by (Some id) is e = record { copy = copy; is = refl; id = id; id_is = is; sees = some_is (job_named id) name e }

knew_seen : (o : Option ClientCopy) (known : First) → Knew (λ (x : ClientCopy). x.first) known o → (word_seen o).first ≡ Some (first_seen known)
knew_seen None known k = absurd k
knew_seen (Some copy) known k = ap (option_map first_seen) k

pub knew_name : (o : Option ClientCopy) (id : StateId) → Knew (λ (x : ClientCopy). x.id) id o → (word_seen o).name ≡ Some (job_named id)
knew_name None id k = absurd k
knew_name (Some copy) id k = ap (option_map job_named) k

knew_of : {X : Type 0} (part : ClientCopy → Option X) (known : X) (o : Option ClientCopy) (copy : ClientCopy) → o ≡ Some copy → part copy ≡ Some known → Knew part known o
knew_of part known o copy is e = subst (Knew part known) (sym is) e

pub record SeenStage (o : Option ClientCopy) (says : Stage → Bool) : Type 0 where
  pub copy : ClientCopy
  pub is : o ≡ Some copy
  pub so : says copy.stage ≡ true

pub seen_stable : (o : Option ClientCopy) → (word_seen o).stable ≡ true → SeenStage o says_stable
seen_stable None e = absurd cc
seen_stable (Some copy) e = record { copy = copy; is = refl; so = e }

seen_exact : (o : Option ClientCopy) → (word_seen o).exact ≡ true → SeenStage o says_exact
seen_exact None e = absurd cc
seen_exact (Some copy) e = record { copy = copy; is = refl; so = e }

-- ---- the copies with which a turn begins

set_or : (l : List (Option ClientCopy)) (n : ℕ) (x : Option ClientCopy) → (get_or (set l n x) n None ≡ x) ⊎ (get_or (set l n x) n None ≡ None)
set_or [] zero x = inr refl
set_or [] (suc n) x = inr refl
set_or (y ∷ ys) zero x = inl refl
set_or (y ∷ ys) (suc n) x = set_or ys n x

-- what there was is there, and what is new was just begun
pub data Starts (before start : Option ClientCopy) : Type 0 where
  Same : (same : start ≡ before) → Starts before start
  New : (spec : CopySpec) (secret : List ℕ) (none : before ≡ None) (is : (start ≡ Some (begun spec secret)) ⊎ (start ≡ None)) → Starts before start

begins_new : {M : Type 0} (j : ℕ) (spec : CopySpec) (secret : List ℕ) (c : ClientState M) (start : Copies) → copy_of j c ≡ None → j < 16 → start ≡ with_begun j spec secret c.copies
    → Starts (copy_at j c.copies) (copy_at j start)
begins_new j spec secret c start none small is =
    New spec secret (none_if (nat_lt j 16) j c (below j 16 small) none) (by (set_or c.copies.copies j (Some (begun spec secret))))
  where
    by : (get_or (set c.copies.copies j (Some (begun spec secret))) j None ≡ Some (begun spec secret)) ⊎ (get_or (set c.copies.copies j (Some (begun spec secret))) j None ≡ None)
        → (copy_at j start ≡ Some (begun spec secret)) ⊎ (copy_at j start ≡ None)
    by (inl e) = inl (ap (copy_at j) is ∙ e)
    by (inr e) = inr (ap (copy_at j) is ∙ e)

pub starts : {M : Type 0} (turn : Turn) (c : ClientState M) (start : Copies) (n : ℕ) → MayTurn turn c → IsStart turn c.copies start → Starts (copy_at n c.copies) (copy_at n start)
starts (Asks query j now) c start n may is = Same (ap (copy_at n) is)
starts (Works side work now) c start n may is = Same (ap (copy_at n) is)
starts (Ticks now) c start n may is = Same (ap (copy_at n) is)
starts (Retries now) c start n may is = Same (ap (copy_at n) is)
starts (Hears side message now) c start n may is = Same (ap (copy_at n) is)
starts (Begins j spec now) c start n may (inl same) = Same (ap (copy_at n) same)
starts (Begins j spec now) c start n may (inr new) = by (cases_eq n j)
  where
    by : (n ≡ j) ⊎ (n ≢ j) → Starts (copy_at n c.copies) (copy_at n start)
    by (inr apart) = Same (ap (copy_at n) new.1 ∙ copy_kept j n (Some (begun spec new.0)) c.copies apart)
    by (inl here) = subst (λ (k : ℕ). Starts (copy_at k c.copies) (copy_at k start)) (sym here) (begins_new j spec new.0 c start may.2 may.1 new.1)

-- what was known at the beginning was known before
start_knew : {X : Type 0} (part : ClientCopy → Option X) (known : X) (before start : Option ClientCopy) → ((spec : CopySpec) (secret : List ℕ) → part (begun spec secret) ≡ None)
    → Starts before start → Knew part known start → Knew part known before
start_knew part known before start none (Same same) k = subst (Knew part known) same k
start_knew part known before start none (New spec secret gone (inl is)) k = none_some (part (begun spec secret)) known (none spec secret) (subst (Knew part known) is k)
start_knew part known before start none (New spec secret gone (inr is)) k = absurd (subst (Knew part known) is k)

-- a copy that there was is there at the beginning
pub start_some : (before start : Option ClientCopy) (copy : ClientCopy) → Starts before start → before ≡ Some copy → start ≡ Some copy
start_some before start copy (Same same) is = same ∙ is
start_some before start copy (New spec secret gone either) is = none_some before copy gone is

-- and one of which something was said, or known
pub start_said : (says : Stage → Bool) (before start : Option ClientCopy) (copy : ClientCopy) → ((spec : CopySpec) (secret : List ℕ) → says (begun spec secret).stage ≡ false)
    → Starts before start → start ≡ Some copy → says copy.stage ≡ true → before ≡ Some copy
start_said says before start copy quiet (Same same) is so = sym same ∙ is
start_said says before start copy quiet (New spec secret gone (inl new)) is so =
    let same = some_is (begun spec secret) copy (sym new ∙ is) in
    let both : false ≡ true = sym (quiet spec secret) ∙ ap (λ (k : ClientCopy). says k.stage) same ∙ so in
    absurd cc
start_said says before start copy quiet (New spec secret gone (inr none)) is so = none_some start copy none is

-- ---- the acceptance of a copy

accept_never : {A : Type 0} (event : Event) (id : StateId) (sent_at : ℕ) → is_own event ≡ true → event ≡ events.Accepted id sent_at → A
accept_never (events.Opened side) id sent_at own e = absurd cc
accept_never events.Sent id sent_at own e = absurd cc
accept_never (events.Queried query) id sent_at own e = absurd cc
accept_never (events.Down side status) id sent_at own e = absurd cc
accept_never events.Allowed id sent_at own e = absurd cc
accept_never (events.Granted known) id sent_at own e = absurd cc
accept_never (events.Accepted other at) id sent_at own e = absurd cc
accept_never (events.Told change session) id sent_at own e = absurd cc
accept_never (events.Refused why) id sent_at own e = absurd cc
accept_never (events.Progressed count complete at) id sent_at own e = absurd cc
accept_never events.Cancelled id sent_at own e = absurd cc
accept_never (events.QueryRefused why) id sent_at own e = absurd cc
accept_never (events.Offloaded end) id sent_at own e = absurd cc

pub accepted_of : {M : Type 0} (ways : Ways) (turn : Turn) (c : ClientState M) (j : ℕ) (event : Event) (id : StateId) (sent_at : ℕ) → Cause ways turn c j event
    → event ≡ events.Accepted id sent_at → IsAnswer ways turn c j (deeds.Starts id)
accepted_of ways turn c j event id sent_at (ByItself event' own) e = accept_never event id sent_at own e
accepted_of ways turn c j event id sent_at (ByAnswer side message now event' turn_is answered) e =
    absurd (copied_never ways turn c j id sent_at (record { side = side; message = message; now = now; turn_is = turn_is; answered = subst (λ (x : Event). IsAnswered ways side message now c j (deeds.Copy x)) e answered }))
accepted_of ways turn c j event id sent_at (ByAcceptance side message now other at turn_is answered) e =
    let same : other ≡ id = cc in
    record { side = side; message = message; now = now; turn_is = turn_is; answered = subst (λ (x : StateId). IsAnswered ways side message now c j (deeds.Starts x)) same answered }
accepted_of ways turn c j event id sent_at (ByHeld side message now other end turn_is answered held) e = absurd cc
accepted_of ways turn c j event id sent_at (ByCallback side message now other end turn_is named called) e = absurd cc

-- ---- what the laws below say of a turn

pub record IsSaidTurn {M : Type 0} (who : Identity) (boot : ℕ) (purposes : Purposes) (ways : Ways) (turn : Turn) (c d : ClientState M) (out : Outbox) : Type 0 where
  pub carried : IsCarried who boot purposes c
  pub reading : Reading
  pub coming : Coming
  pub taking : out.undrawn ≡ false → Taking who boot purposes ways turn c out
  pub drawn : (out.undrawn ≡ false) ⊎ (d.copies ≡ c.copies)
  pub may : MayTurn turn c
  pub changes : TurnChanges ways turn c d out
  pub first_told : (j : ℕ) (copy : ClientCopy) (known : First) → copy_at j d.copies ≡ Some copy → copy.first ≡ Some known
      → Knew (λ (x : ClientCopy). x.first) known (copy_at j changes.start) ⊎ Happened (Cause ways turn c j) (IsFirstTold known) (copy_at j changes.start)
  pub name_told : (j : ℕ) (copy : ClientCopy) (id : StateId) → copy_at j d.copies ≡ Some copy → copy.id ≡ Some id
      → Knew (λ (x : ClientCopy). x.id) id (copy_at j changes.start) ⊎ Happened (Cause ways turn c j) (IsNamed id) (copy_at j changes.start)
  pub first : (j : ℕ) (known : First) → Knew (λ (x : ClientCopy). x.first) known (copy_at j c.copies) → Knew (λ (x : ClientCopy). x.first) known (copy_at j d.copies)
  pub name : (j : ℕ) (id : StateId) → Knew (λ (x : ClientCopy). x.id) id (copy_at j c.copies) → Knew (λ (x : ClientCopy). x.id) id (copy_at j d.copies)
  pub stable_law : StableLaw
  pub exact_law : ExactLaw

module _ {M : Type 0} (who : Identity) (boot : ℕ) (purposes after : Purposes) (ways : Ways) (turn : Turn) (c d : ClientState M) (out : Outbox)
    (f : IsSaidTurn who boot purposes ways turn c d out) (s : System) (k : ℕ) (at : IsSeenAt boot purposes c s k) (to : IsSeenAt boot after d s (suc k))
    (acts : s.acts ends.Client k ≡ acts_of turn out) where
  start_of : (n : ℕ) → Starts (copy_at n c.copies) (copy_at n f.changes.start)
  start_of n = starts turn c f.changes.start n f.may f.changes.begins

  -- an answer that is taken is one of the system
  abbrev from_source : (purpose : Purpose) → IsTold who boot purposes c turn out Source purpose → IsAnswerFor (spelling who.accepts who.whose) s ends.Source ends.Client k purpose
  from_source purpose told = record {
    call = told.call;
    seal = told.seal;
    reply = told.reply;
    takes =
        subst (λ (v : Caller). Takes (spelling who.accepts who.whose) v (s.acts ends.Client k) told.seal (Slotted told.seal told.call) told.reply) (sym at.source)
        (subst (λ (a : Acts). Takes (spelling who.accepts who.whose) (seen boot purposes Source c) a told.seal (Slotted told.seal told.call) told.reply) (sym acts) told.takes);
    purpose_is = told.purpose_is;
  }

  abbrev pub from_dest : (purpose : Purpose) → IsTold who boot purposes c turn out Dest purpose → IsAnswerFor (spelling who.accepts who.whose) s ends.Dest ends.Client k purpose
  from_dest purpose told = record {
    call = told.call;
    seal = told.seal;
    reply = told.reply;
    takes =
        subst (λ (v : Caller). Takes (spelling who.accepts who.whose) v (s.acts ends.Client k) told.seal (Slotted told.seal told.call) told.reply) (sym at.dest)
        (subst (λ (a : Acts). Takes (spelling who.accepts who.whose) (seen boot purposes Dest c) a told.seal (Slotted told.seal told.call) told.reply) (sym acts) told.takes);
    purpose_is = told.purpose_is;
  }

  first_at : (n : ℕ) (known : First) → Knew (λ (x : ClientCopy). x.first) known (copy_at n c.copies) → (s.word k n).first ≡ Some (first_seen known)
  first_at n known knew = ap (λ (w : words.Word). w.first) (at.word n) ∙ knew_seen (copy_at n c.copies) known knew

  pub name_at : (n : ℕ) (id : StateId) → Knew (λ (x : ClientCopy). x.id) id (copy_at n c.copies) → (s.word k n).name ≡ Some (job_named id)
  name_at n id knew = ap (λ (w : words.Word). w.name) (at.word n) ∙ knew_name (copy_at n c.copies) id knew

  pub name_after : (n : ℕ) (id : StateId) → Knew (λ (x : ClientCopy). x.id) id (copy_at n d.copies) → (s.word (suc k) n).name ≡ Some (job_named id)
  name_after n id knew = ap (λ (w : words.Word). w.name) (to.word n) ∙ knew_name (copy_at n d.copies) id knew

  -- ---- the first change attribute

  first_told_so : (n : ℕ) (known : First) → Taking who boot purposes ways turn c out → (event : Event) → Cause ways turn c n event → event ≡ events.Granted known
      → laws.IsFirst (spelling who.accepts who.whose) meaning s k n (first_seen known)
  first_told_so n known taking event caused is =
      let a = answer_of ways turn c n (events.Granted known) (subst (Cause ways turn c n) is caused) refl in
      let told = first_told who boot purposes ways turn c out f.carried f.reading f.coming taking n known a in
      record { answer = from_source (ForFirst n) told.told; root = told.root; asks = told.asks; says = told.says }

  pub first_law : (n : ℕ) (first : words.First) → (s.word (suc k) n).first ≡ Some first
      → ((s.word k n).first ≡ Some first) ⊎ laws.IsFirst (spelling who.accepts who.whose) meaning s k n first
  first_law n first e =
      let seen_so = seen_first (copy_at n d.copies) first (sym (ap (λ (w : words.Word). w.first) (to.word n)) ∙ e) in
      by seen_so f.drawn
    where
      told : (x : SeenFirst (copy_at n d.copies) first) → Taking who boot purposes ways turn c out
          → Knew (λ (y : ClientCopy). y.first) x.known (copy_at n f.changes.start) ⊎ Happened (Cause ways turn c n) (IsFirstTold x.known) (copy_at n f.changes.start)
          → ((s.word k n).first ≡ Some first) ⊎ laws.IsFirst (spelling who.accepts who.whose) meaning s k n first
      told x taking (inl knew) =
          let was = start_knew (λ (y : ClientCopy). y.first) x.known (copy_at n c.copies) (copy_at n f.changes.start) (λ spec secret. refl) (start_of n) knew in
          inl (first_at n x.known was ∙ ap (λ (w : words.First). Some w) x.sees)
      told x taking (inr now) =
          inr (subst (laws.IsFirst (spelling who.accepts who.whose) meaning s k n) x.sees (first_told_so n x.known taking now.event now.caused now.so.told))

      by : SeenFirst (copy_at n d.copies) first → (out.undrawn ≡ false) ⊎ (d.copies ≡ c.copies)
          → ((s.word k n).first ≡ Some first) ⊎ laws.IsFirst (spelling who.accepts who.whose) meaning s k n first
      by x (inl drawn) = told x (f.taking drawn) (f.first_told n x.copy x.known x.is x.known_is)
      by x (inr same) =
          inl (first_at n x.known (knew_of (λ (y : ClientCopy). y.first) x.known (copy_at n c.copies) x.copy (sym (ap (copy_at n) same) ∙ x.is) x.known_is) ∙ ap (λ (w : words.First). Some w) x.sees)

  -- ---- the name

  name_told_so : (n : ℕ) (id : StateId) → Taking who boot purposes ways turn c out → (event : Event) (sent_at : ℕ) → Cause ways turn c n event → event ≡ events.Accepted id sent_at
      → laws.IsNamed (spelling who.accepts who.whose) meaning s k n (job_named id)
  name_told_so n id taking event sent_at caused is =
      let a = accepted_of ways turn c n event id sent_at caused is in
      let told = name_told who boot purposes ways turn c out f.carried f.reading f.coming taking n id a in
      record {
        answer = from_dest (ForCopy n) told.told;
        plan = told.plan;
        asks = told.asks;
        says = told.says;
        first = first_seen told.known;
        first_is = first_at n told.known told.knew;
        file = told.file;
      }

  pub name_law : (n : ℕ) (name : JobName) → (s.word (suc k) n).name ≡ Some name → ((s.word k n).name ≡ Some name) ⊎ laws.IsNamed (spelling who.accepts who.whose) meaning s k n name
  name_law n name e = by (seen_name (copy_at n d.copies) name (sym (ap (λ (w : words.Word). w.name) (to.word n)) ∙ e)) f.drawn
    where
      told : (x : SeenName (copy_at n d.copies) name) → Taking who boot purposes ways turn c out
          → Knew (λ (y : ClientCopy). y.id) x.id (copy_at n f.changes.start) ⊎ Happened (Cause ways turn c n) (IsNamed x.id) (copy_at n f.changes.start)
          → ((s.word k n).name ≡ Some name) ⊎ laws.IsNamed (spelling who.accepts who.whose) meaning s k n name
      told x taking (inl knew) =
          let was = start_knew (λ (y : ClientCopy). y.id) x.id (copy_at n c.copies) (copy_at n f.changes.start) (λ spec secret. refl) (start_of n) knew in
          inl (name_at n x.id was ∙ ap (λ (w : JobName). Some w) x.sees)
      told x taking (inr now) =
          inr (subst (laws.IsNamed (spelling who.accepts who.whose) meaning s k n) x.sees (name_told_so n x.id taking now.event now.so.sent_at now.caused now.so.told))

      by : SeenName (copy_at n d.copies) name → (out.undrawn ≡ false) ⊎ (d.copies ≡ c.copies)
          → ((s.word k n).name ≡ Some name) ⊎ laws.IsNamed (spelling who.accepts who.whose) meaning s k n name
      by x (inl drawn) = told x (f.taking drawn) (f.name_told n x.copy x.id x.is x.id_is)
      by x (inr same) =
          inl (name_at n x.id (knew_of (λ (y : ClientCopy). y.id) x.id (copy_at n c.copies) x.copy (sym (ap (copy_at n) same) ∙ x.is) x.id_is) ∙ ap (λ (w : JobName). Some w) x.sees)

  -- ---- the last change attribute

  -- the first one was known before the turn
  knew_first : (n : ℕ) (first change_first : First) (session_first : Session) (start : ClientCopy) (before : List Event) → Taking who boot purposes ways turn c out
      → copy_at n c.copies ≡ Some start → AllByRecursion (Cause ways turn c n) before → (ran before start).first ≡ Some first
      → IsAnswer ways turn c n (deeds.Copy (events.Told change_first.change session_first)) → Knew (λ (x : ClientCopy). x.first) first (copy_at n c.copies)
  knew_first n first change_first session_first start before taking is all known a = by (first_among (Cause ways turn c n) before start first all known)
    where
      by : (start.first ≡ Some first) ⊎ Cause ways turn c n (events.Granted first) → Knew (λ (x : ClientCopy). x.first) first (copy_at n c.copies)
      by (inl was) = knew_of (λ (x : ClientCopy). x.first) first (copy_at n c.copies) start is was
      by (inr granted) =
          let g = granted_stage who boot purposes ways turn c out f.carried f.reading f.coming taking n first (answer_of ways turn c n (events.Granted first) granted refl) in
          let l = last_stage who boot purposes ways turn c out f.carried f.reading f.coming taking n change_first.change session_first a in
          let same = some_is g.own l.own (sym g.is ∙ l.is) in
          let both : Asked steps.Notify ≡ Asked steps.Last = sym g.asked ∙ ap (λ (x : ClientCopy). x.stage) same ∙ l.asked in
          absurd cc

  exact_so : (n : ℕ) (start : ClientCopy) → Taking who boot purposes ways turn c out → copy_at n c.copies ≡ Some start → IsAmong (Cause ways turn c n) said.IsSaidExact (f.changes.each n).events start
      → laws.IsSaidExact (spelling who.accepts who.whose) meaning s k n
  exact_so n start taking is m =
      let x = m.so in
      let a = answer_of ways turn c n (events.Told x.first.change x.session) (subst (Cause ways turn c n) x.told m.caused) refl in
      let told = last_told who boot purposes ways turn c out f.carried f.reading f.coming taking n x.first.change x.session a in
      let knew = knew_first n x.first x.first x.session start m.before taking is m.all x.first_is a in
      let same : told.known ≡ x.first = some_is told.known x.first (knew_same (copy_at n c.copies) told.known x.first told.knew knew) in
      record {
        answer = from_source (ForLast n) told.told;
        first = first_seen x.first;
        first_is = first_at n x.first knew;
        same_root = told.root ∙ ap handle_named x.same_root;
        asks = told.asks ∙ ap (λ (w : First). Some (first_seen w).file) same;
        says = told.says;
      }
    where
      knew_same : (o : Option ClientCopy) (known first : First) → Knew (λ (x : ClientCopy). x.first) known o → Knew (λ (x : ClientCopy). x.first) first o → Some known ≡ Some first
      knew_same None known first p q = absurd p
      knew_same (Some copy) known first p q = sym p ∙ q

  -- what is said of a copy after the turn
  pub ran_is : (n : ℕ) (copy : ClientCopy) → copy_at n d.copies ≡ Some copy → (start : ClientCopy) × (copy_at n f.changes.start ≡ Some start) × (ran (f.changes.each n).events start ≡ copy)
  ran_is n copy is = by (copy_at n f.changes.start) refl (sym (f.changes.each n).copy ∙ is)
    where
      by : (o : Option ClientCopy) → copy_at n f.changes.start ≡ o → option_map (ran (f.changes.each n).events) o ≡ Some copy
          → (start : ClientCopy) × (copy_at n f.changes.start ≡ Some start) × (ran (f.changes.each n).events start ≡ copy)
      by None e r = absurd cc
      by (Some start) e r = (start, e, some_is (ran (f.changes.each n).events start) copy r)

  stays_exact : (n : ℕ) (copy : ClientCopy) → copy_at n c.copies ≡ Some copy → says_exact copy.stage ≡ true → (s.word k n).exact ≡ true
  stays_exact n copy is so = ap (λ (w : words.Word). w.exact) (at.word n ∙ ap word_seen is) ∙ so

  pub exact_law : (n : ℕ) → (s.word (suc k) n).exact ≡ true → ((s.word k n).exact ≡ true) ⊎ laws.IsSaidExact (spelling who.accepts who.whose) meaning s k n
  exact_law n e = by (seen_exact (copy_at n d.copies) (sym (ap (λ (w : words.Word). w.exact) (to.word n)) ∙ e)) f.drawn
    where
      among : (start : ClientCopy) → Taking who boot purposes ways turn c out → copy_at n f.changes.start ≡ Some start
          → (says_exact start.stage ≡ true) ⊎ IsAmong (Cause ways turn c n) said.IsSaidExact (f.changes.each n).events start → Starts (copy_at n c.copies) (copy_at n f.changes.start)
          → ((s.word k n).exact ≡ true) ⊎ laws.IsSaidExact (spelling who.accepts who.whose) meaning s k n
      among start taking is (inl was) starts = inl (stays_exact n start (start_said says_exact (copy_at n c.copies) (copy_at n f.changes.start) start (λ spec secret. refl) starts is was) was)
      among start taking is (inr m) (Same same) = inr (exact_so n start taking (sym same ∙ is) m)
      among start taking is (inr m) (New spec secret gone either) =
          let a = answer_of ways turn c n (events.Told m.so.first.change m.so.session) (subst (Cause ways turn c n) m.so.told m.caused) refl in
          let l = last_stage who boot purposes ways turn c out f.carried f.reading f.coming taking n m.so.first.change m.so.session a in
          none_some (copy_at n c.copies) l.own gone l.is

      by : SeenStage (copy_at n d.copies) says_exact → (out.undrawn ≡ false) ⊎ (d.copies ≡ c.copies)
          → ((s.word k n).exact ≡ true) ⊎ laws.IsSaidExact (spelling who.accepts who.whose) meaning s k n
      by x (inr same) = inl (stays_exact n x.copy (sym (ap (copy_at n) same) ∙ x.is) x.so)
      by x (inl drawn) =
          let r = ran_is n x.copy x.is in
          among r.0 (f.taking drawn) r.1
          (exact_among (Cause ways turn c n) f.exact_law (f.changes.each n).events r.0 (f.changes.each n).caused (ap (λ (y : ClientCopy). says_exact y.stage) r.2 ∙ x.so)) (start_of n)

  -- ---- what is known and said stays

  pub keeps_law : (n : ℕ) → laws.KeepsWord (s.word k n) (s.word (suc k) n)
  keeps_law n = record {
    first = λ first e.
        let x = seen_first (copy_at n c.copies) first (sym (ap (λ (w : words.Word). w.first) (at.word n)) ∙ e) in
        let later = f.first n x.known (knew_of (λ (y : ClientCopy). y.first) x.known (copy_at n c.copies) x.copy x.is x.known_is) in
        ap (λ (w : words.Word). w.first) (to.word n) ∙ knew_seen (copy_at n d.copies) x.known later ∙ ap (λ (w : words.First). Some w) x.sees;
    name = λ name e.
        let x = seen_name (copy_at n c.copies) name (sym (ap (λ (w : words.Word). w.name) (at.word n)) ∙ e) in
        let later = f.name n x.id (knew_of (λ (y : ClientCopy). y.id) x.id (copy_at n c.copies) x.copy x.is x.id_is) in
        name_after n x.id later ∙ ap (λ (w : JobName). Some w) x.sees;
    stable = λ e.
        let x = seen_stable (copy_at n c.copies) (sym (ap (λ (w : words.Word). w.stable) (at.word n)) ∙ e) in
        ap (λ (w : words.Word). w.stable) (to.word n ∙ ap word_seen (ran_on x.copy x.is)) ∙ stable_kept (f.changes.each n).events x.copy x.so;
    exact = λ e.
        let x = seen_exact (copy_at n c.copies) (sym (ap (λ (w : words.Word). w.exact) (at.word n)) ∙ e) in
        ap (λ (w : words.Word). w.exact) (to.word n ∙ ap word_seen (ran_on x.copy x.is)) ∙ exact_kept (f.changes.each n).events x.copy x.so;
  }
    where
      ran_on : (copy : ClientCopy) → copy_at n c.copies ≡ Some copy → copy_at n d.copies ≡ Some (ran (f.changes.each n).events copy)
      ran_on copy is =
          (f.changes.each n).copy ∙ ap (option_map (ran (f.changes.each n).events)) (start_some (copy_at n c.copies) (copy_at n f.changes.start) copy (starts turn c f.changes.start n f.may f.changes.begins) is)

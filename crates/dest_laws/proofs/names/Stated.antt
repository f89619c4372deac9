-- What a step answers of a copy's status is so in the system that shows it.
use Rattle.std.proofs.Common.{◌≡◌, ℕ, ◌<◌, Bool, true, false, List, [], ◌∷◌, Option, Some, None, Ok, refl, sym, ap, subst, ◌∙◌, arith}
use Rattle.std.specs.Prelude.{◌==◌, ◌&&◌, max}
use Rattle.std.specs.List.{AllByRecursion}
use Rattle.std.proofs.lemmas.Bool.{eqb-true}
use Rattle.copy_model.specs.Marks.{is_committed}
use Rattle.copy_ops.specs.declared.arg.CopyArg.TheVariants as copy_args
use Rattle.dest_core.specs.Core.{dest_rules}
use Rattle.dest_core.specs.Stepping.{DestState, DestStep, IsRecord, IsRecordBy}
use Rattle.dest_core.specs.declared.destination.Destination.{Destination}
use Rattle.dest_jobs.specs.Offloads.{name_in}
use Rattle.dest_jobs.specs.declared.carried.Carried.{Carried}
use Rattle.dest_laws.proofs.names.Asking.{compound_said, says_committed}
use Rattle.dest_laws.proofs.names.Given.{given_name}
use Rattle.dest_laws.specs.Histories.Linked.{IsShown, name_at}
use Rattle.dest_laws.specs.Histories.Seen.{Seen, seen, seen_in}
use Rattle.dest_laws.specs.Names.Causes.{HaveCauses}
use Rattle.dest_laws.specs.Names.Holding.{IsFairRecord, safe_at}
use Rattle.dest_laws.specs.Names.Posts.{IsCommitted}
use Rattle.dest_laws.specs.Names.Right.{AreGiven, IsSafe, IsWithin}
use Rattle.dest_laws.specs.View.Steps.{Shows, table_in}
use Rattle.dest_laws.specs.View.View.{plan_seen}
use Rattle.file_ops.specs.declared.args.FileArg.TheVariants as args
use Rattle.file_ops.specs.declared.sessions.SequenceArgs.{SequenceArgs}
use Rattle.gss_mech.specs.declared.mechanism.Accepted.{Accepted}
use Rattle.nfs_base.specs.declared.job.JobName.{JobName}
use Rattle.nfs_base.specs.declared.state_id.StateId.{StateId}
use Rattle.nfs_compound.specs.Compounds.{IsCompound, compound_of}
use Rattle.nfs_compound.specs.Ops.{operation}
use Rattle.nfs_compound.specs.declared.compound.Compound.{Compound}
use Rattle.nfs_compound.specs.declared.op.Op.{Op}
use Rattle.nfs_compound.specs.declared.op.Op.TheVariants as ops
use Rattle.rpc_calls.specs.Judging.{judged_of}
use Rattle.rpc_calls.specs.declared.call.Judged.{Judged}
use Rattle.rpc_calls.specs.declared.call.Judged.TheVariants as judged
use Rattle.rpc_calls.specs.declared.call.TheConstants.Program as programs
use Rattle.server_laws.specs.Acts.{acts_of, tells, told}
use Rattle.server_laws.specs.ContextLaws.{InEachStep}
use Rattle.server_laws.specs.Steps.{IsStep}
use Rattle.server_laws.specs.Told.{IsTold, TellsGiven, given_in}
use Rattle.session_server.specs.Host.{Codes}
use Rattle.session_server.specs.Steps.{IsJudgedTurn, IsTurn, who_calls}
use Rattle.slot_calls.specs.BytesLaws.{ops_are_bytes}
use Rattle.streams.specs.declared.draws.Drawn.{Drawn}
use Rattle.tell_laws.specs.ReadBack.{ReadsBack}
use Rattle.wire_machine.specs.History.{is_name, says_stable}
use Rattle.wire_meaning.specs.Meaning.{asked_by, job_named, meaning, ops_read, status_asked}
use Rattle.wire_model.specs.System.{System}
use Rattle.wire_model.specs.Wire.{Executed}
use Rattle.wire_xdr.specs.Cursor.{IsBytes}

-- ---- how a status is asked

record AsksStatus (os : List Op) (name : JobName) : Type 0 where
  slot : SequenceArgs
  handle : List ℕ
  id : StateId
  ops_are : os ≡ ops.File (args.Sequence slot) ∷ ops.File (args.PutFh handle) ∷ ops.Copy (copy_args.OffloadStatus id) ∷ []
  named_is : name_in id ≡ name

some_name : (a b : JobName) → ◌≡◌ {A = Option JobName} (Some a) (Some b) → a ≡ b
some_name a b is = cc

asks_status : (os : List Op) (name : JobName) → status_asked os ≡ Some name → AsksStatus os name
asks_status (ops.File (args.Sequence slot) ∷ ops.File (args.PutFh handle) ∷ ops.Copy (copy_args.OffloadStatus id) ∷ []) name h =
    record { slot = slot; handle = handle; id = id; ops_are = refl; named_is = some_name (job_named id) name h }
asks_status os name h = absurd cc

-- ---- the step

abbrev pub Spelled : Type 0
Spelled = (bytes : List ℕ) (c : Compound) → IsBytes bytes → compound_of bytes ≡ Ok c → IsCompound c bytes

module _ {M : Type 0} (reads : ReadsBack) (spelled : Spelled) (codes : Codes) (message : List ℕ) (all : IsBytes message) (now : ℕ) (d : DestState M) (t : DestStep M) (e : Executed)
    (told : IsTold {X = Destination M} {C = Carried} dest_rules codes message now d t e) (have : HaveCauses (table_in d)) where
  abbrev c : Compound
  c = told.step.compound

  found : IsCompound c told.step.args
  found = spelled told.step.args c (subst IsBytes told.step.asked.ops_are (ops_are_bytes message all)) told.step.read

  asked_is : asked_by e.ops ≡ c.ops
  asked_is = ap asked_by told.ops ∙ ap ops_read told.step.read

  pub status_committed : (name : JobName) → status_asked (asked_by e.ops) ≡ Some name → meaning.says_complete e.results ≡ true → IsCommitted (table_in d) name
  status_committed name asks complete =
      let a = asks_status c.ops name (sym (ap status_asked asked_is) ∙ asks) in
      let fits : operation.Fits (ops.File (args.Sequence a.slot)) = (subst (λ (os : List Op). AllByRecursion operation.Fits os) a.ops_are found.fits.ops.1).0 in
      let said =
      compound_said told.step.choice
      (who_calls (max d.second now) told.conn (record { number = told.step.asked.number; seq = told.step.asked.seq }) told.step.asked.context)
      told.step.asked.context.principal told.step.asked.context.carry a.slot a.handle a.id d.state.machine.extra c a.ops_are d.state refl told.new in
      let body : List ℕ = (given_in dest_rules codes told.conn message (max d.second now) d t told.step).body in
      subst (λ (n : JobName). IsCommitted (table_in d) n) a.named_is
      (says_committed reads (table_in d) (name_in a.id) have a.slot fits c.tag found.fits.tag body said
      (sym (ap (λ (r : List ℕ). is_complete_in r) told.results) ∙ complete))
    where
      is_complete_in : List ℕ → Bool
      is_complete_in r = meaning.says_complete r

-- ---- the system

and_parts : (a b : Bool) → (a && b) ≡ true → (a ≡ true) × (b ≡ true)
and_parts true b is = (refl, is)
and_parts false b is = absurd cc

named_by : (name : JobName) (asked : Option JobName) → is_name name asked ≡ true → asked ≡ Some name
named_by name None is = absurd cc
named_by name (Some other) is =
    let both = and_parts (name.boot == other.boot) (name.number == other.number) is in
    let boots : other.boot ≡ name.boot = sym (eqb-true name.boot other.boot both.0) in
    let numbers : other.number ≡ name.number = sym (eqb-true name.number other.number both.1) in
    ap (λ (n : JobName). Some n) (ap (λ (b : ℕ). so b other.number) boots ∙ ap (λ (n : ℕ). so name.boot n) numbers)
  where
    so : (boot number : ℕ) → JobName
    so boot number = record { boot = boot; number = number }

pub stable_asks : (e : Executed) (name : JobName) → says_stable meaning name (Some e) ≡ true → (status_asked (asked_by e.ops) ≡ Some name) × (meaning.says_complete e.results ≡ true)
stable_asks e name is =
    let both = and_parts (is_name name (meaning.asks_status e.ops)) (meaning.says_complete e.results) is in (named_by name (meaning.asks_status e.ops) both.0, both.1)

-- a job that is committed before a step is shown so
pub committed_shown : {M : Type 0} (s : System) (k : ℕ) (d : DestState M) (name : JobName) → Shows s k d → AreGiven (table_in d) → IsCommitted (table_in d) name
    → IsSafe (table_in d).boot (s.made k) (safe_at s k) name
committed_shown s k d name shows given is =
    let boot : ℕ = (table_in d).boot in
    let few = shows.made in
    let within : IsWithin boot (s.made k) (table_in d) = record { given = given; boot_is = refl; few = omega (arith, few) } in
    let as_given = given_name boot (s.made k) (table_in d) name is.job within is.there in
    let below : as_given.place < (table_in d).made = subst (λ (n : ℕ). as_given.place < n) few as_given.below in
    let found : seen_in (table_in d) (name_at boot as_given.place) ≡ seen (Some is.job) = ap (λ (n : JobName). seen_in (table_in d) n) (sym as_given.named) ∙ ap seen is.there in
    let shown : IsShown plan_seen (seen (Some is.job)) (s.job k as_given.place) = subst (λ (x : Option Seen). IsShown plan_seen x (s.job k as_given.place)) found (shows.linked as_given.place below) in
    record { place = as_given.place; given = as_given.below; named = as_given.named; is = ap is_committed shown.2 ∙ is.committed }

-- ---- a record on a connection

module _ {M W : Type 0} (reads : ReadsBack) (spelled : Spelled) (codes : Codes) (accepted : List ℕ → List ℕ → Option Accepted) (gives : W → Drawn → W → Type 0)
    (tell : InEachStep {X = Destination M} {C = Carried} {W = W} dest_rules codes accepted gives (TellsGiven dest_rules codes)) where
  module _ (conn : ℕ) (message : List ℕ) (now : ℕ) (d : DestState M) (before after : W) (t : DestStep M) (fair : IsFairRecord message d t) (have : HaveCauses (table_in d)) where
    abbrev Told : Option Executed
    Told = (acts_of codes message now d t).executed

    some_says : IsTurn dest_rules codes accepted gives conn message now d before after t → (e : Option Executed) → Told ≡ e → (name : JobName) → says_stable meaning name e ≡ true
        → IsCommitted (table_in d) name
    some_says turn None is name says = absurd cc
    some_says turn (Some e) is name says =
        let step : IsStep dest_rules codes accepted gives conn message now d before after t =
        record { good = fair.good; few = fair.few; are_bytes = fair.are_bytes; turn = turn; short = fair.short } in
        let asks = stable_asks e name says in
        status_committed reads spelled codes message fair.are_bytes now d t e (tell conn message now d before after t step e is) have name asks.0 asks.1

    none_says : (e : Option Executed) → e ≡ None → (name : JobName) → says_stable meaning name e ≡ true → ⊥
    none_says e none name says = let wrong = sym (ap (λ (x : Option Executed). says_stable meaning name x) none) ∙ says in cc

    abbrev Tells : Judged → Option Executed
    Tells j = told (tells j d.contexts d.state.sessions) message t.out.sent

    says_by : (j : Judged) → judged_of codes.mic (max d.second now) programs.NFS message d.contexts ≡ j → IsRecordBy j codes accepted gives conn message now d before after t
        → (name : JobName) → says_stable meaning name Told ≡ true → IsCommitted (table_in d) name
    says_by judged.Reply is turn name says = absurd (none_says Told (ap Tells is) name says)
    says_by judged.Unread is turn name says =
        some_says (subst (λ (j : Judged). IsJudgedTurn j dest_rules codes accepted gives (max d.second now) conn d before after t) (sym is) turn) Told refl name says
    says_by (judged.Call call) is turn name says =
        some_says (subst (λ (j : Judged). IsJudgedTurn j dest_rules codes accepted gives (max d.second now) conn d before after t) (sym is) turn) Told refl name says

    pub record_says : IsRecord codes accepted gives conn message now d before after t → (name : JobName) → says_stable meaning name Told ≡ true → IsCommitted (table_in d) name
    record_says turn name says = says_by (judged_of codes.mic (max d.second now) programs.NFS message d.contexts) refl turn name says

-- What a step tells of copies is so in the system that shows it.
use Rattle.std.proofs.Common.{◌≡◌, ◌⊎◌, inl, inr, ℕ, zero, suc, ◌+◌, ◌<◌, ◌≤◌, ◌^◌, Bool, true, false, List, [], ◌∷◌, ◌++◌, length, Option, Some, None, refl, sym, ap, subst, ◌∙◌, arith, lit<}
use Rattle.std.specs.Prelude.{◌==◌, ◌&&◌, ◌||◌, Contains, map, nat_lt, slice_index_or}
use Rattle.std.specs.List.{AllByRecursion, list_any}
use Rattle.std.proofs.lemmas.Bool.{eq-eqb, eqb-true, ltb-false, ltb-true}
use Rattle.copy_model.specs.Job.{Entry}
use Rattle.copy_model.specs.Marks.{is_commit, is_committed}
use Rattle.copy_ops.specs.declared.callback.OffloadEnd.{OffloadEnd}
use Rattle.copy_ops.specs.declared.callback.OffloadEnd.TheVariants as ends
use Rattle.dest_back.specs.Callbacks.{CallbackTable}
use Rattle.dest_back.specs.Telling.{sealed_callback}
use Rattle.dest_back.specs.declared.compound.Ended.{Ended}
use Rattle.dest_back.specs.declared.line.Line.{Line}
use Rattle.dest_core.specs.Stepping.{DestState, DestStep, copier_in}
use Rattle.dest_jobs.specs.Copying.{offload_id}
use Rattle.dest_laws.proofs.names.Given.{given_name, stay_given}
use Rattle.dest_laws.specs.Deeds.{ByDeeds}
use Rattle.dest_laws.specs.Histories.Linked.{AreLinked, CopyKeeps, GoOn, GotOrRetired, Planned, looked_up, name_at}
use Rattle.dest_laws.specs.Histories.Seen.{Later, entries_in, seen, seen_in}
use Rattle.dest_laws.specs.Names.Causes.{HaveCauses}
use Rattle.dest_laws.specs.Names.Going.{StaysTold}
use Rattle.dest_laws.specs.Names.Holding.{IsFair, IsServers, IsToldRight, MarksAreRight, safe_at}
use Rattle.dest_laws.specs.Names.Posts.{AreRight, GoRight, IfConn, IsCommitted, IsNotClients, SaysRight, SessionsFit}
use Rattle.dest_laws.specs.Names.Right.{AreGiven, EndIsRight, IsSafe, IsWithin, TellsRight}
use Rattle.dest_laws.specs.Names.Told.{CanBeTold, EndCanBeTold}
use Rattle.dest_laws.specs.View.Steps.{ShowsStep, table_in}
use Rattle.dest_laws.specs.View.View.{plan_seen}
use Rattle.dest_tasks.specs.Completing.{Comes, Deed}
use Rattle.gss_ctx.specs.Calls.{Side}
use Rattle.gss_ctx.specs.Seals.{Mic}
use Rattle.job_book.specs.Book.{BookView}
use Rattle.nfs_base.specs.Forms.{state_id}
use Rattle.nfs_base.specs.declared.job.JobName.{JobName}
use Rattle.nfs_base.specs.declared.seal.End.{End}
use Rattle.nfs_base.specs.declared.seal.End.TheVariants.{Client, Dest}
use Rattle.nfs_base.specs.declared.seal.Seal.{Seal}
use Rattle.outbox.specs.declared.outgoing.Outgoing.{Outgoing}
use Rattle.outbox.specs.declared.outgoing.To.TheVariants.{Conn, Server, Source}
use Rattle.outbox.specs.declared.outgoing.To.{To}
use Rattle.session_calls.specs.declared.slot_call.SlotUse.{SlotUse}
use Rattle.wire_lines.specs.declared.letters.Speaker.{Speaker}
use Rattle.wire_machine.specs.Check.{same_end}
use Rattle.wire_machine.specs.History.{is_clients, is_reported, reports, says_stable, sent_of}
use Rattle.wire_meaning.specs.Meaning.{ends_stable, is_name, job_named, meaning}
use Rattle.wire_model.specs.Copies.{Job as Copy}
use Rattle.wire_model.specs.NameLaws.{IsReported}
use Rattle.wire_model.specs.System.{System}
use Rattle.wire_model.specs.Wire.{Acts, Executed, Sends, Sent}
use Rattle.wire_spelling.specs.Calls.{is_callback}
use Rattle.wire_spelling.specs.Slots.{ops_of}
use Rattle.wire_spelling.specs.Spelling.{spelling}
use Rattle.wire_xdr.specs.Cursor.{IsBytes}

-- ---- lists and tests

any_more : (es more : List Entry) → is_committed es ≡ true → is_committed (es ++ more) ≡ true
any_more [] more is = absurd cc
any_more (e ∷ es) more is = by (is_commit e) is (λ found. any_more es more found)
  where
    by : (b : Bool) → (b || is_committed es) ≡ true → (is_committed es ≡ true → is_committed (es ++ more) ≡ true) → (b || is_committed (es ++ more)) ≡ true
    by true is rest = refl
    by false is rest = rest is

and_parts : (a b : Bool) → (a && b) ≡ true → (a ≡ true) × (b ≡ true)
and_parts true b is = (refl, is)
and_parts false b is = absurd cc

or_parts : (a b : Bool) → (a || b) ≡ true → (a ≡ true) ⊎ (b ≡ true)
or_parts true b is = inl refl
or_parts false b is = inr is

or_right : (a b : Bool) → b ≡ true → (a || b) ≡ true
or_right true b is = refl
or_right false b is = is

or_left : (a b : Bool) → a ≡ true → (a || b) ≡ true
or_left true b is = refl
or_left false b is = absurd cc

client_is : (e : End) → same_end e Client ≡ true → e ≡ Client
client_is Client is = refl
client_is _ is = absurd cc

-- ---- the same told of more

module _ (boot made more : ℕ) (safe after : ℕ → Bool) (few : made ≤ more) (stays : (place : ℕ) → place < made → safe place ≡ true → after place ≡ true) where
  end_right : (place : ℕ) → place < made → (end : OffloadEnd) → EndIsRight (safe place) end → EndIsRight (after place) end
  end_right place below (ends.Done response) is = (stays place below is.0, is.1)
  end_right place below (ends.Failed status count) is = is

  told_more : (told : Ended) → TellsRight boot made safe told → TellsRight boot more after told
  told_more told is =
      let given = is.given in
      record { place = is.place; given = omega (arith, given, few); id = is.id; handle = is.handle; end = end_right is.place is.given told.end is.end }

  pub are_more : (c : CallbackTable) → AreRight (TellsRight boot made safe) c → AreRight (TellsRight boot more after) c
  are_more c are = record { tells = λ told is. told_more told (are.tells told is); fit = are.fit }

-- ---- what goes out reports what is safe

-- a copy of this name was given out and is safe
abbrev Safe : (boot made : ℕ) → (ℕ → Bool) → JobName → Type 0
Safe boot made safe name = IsSafe boot made safe name

-- a callback is read as it is told
abbrev pub AreRead : Mic → Type 0
AreRead mic =
    (side : Side) (xid program : ℕ) (slot : SlotUse) (told : Ended) → length side.handle ≡ 8 → xid < 2 ^ 32 → length slot.session ≡ 16 → CanBeTold told
    → IsBytes (sealed_callback mic side xid program slot told).bytes
    → (name : JobName) → meaning.reports (ops_of (sealed_callback mic side xid program slot told).bytes) name ≡ (ends_stable told.end && is_name name (job_named told.id))

module _ (mic : Mic) (read : AreRead mic) (boot made : ℕ) (safe : ℕ → Bool) (boot_small : boot < 2 ^ 32) (made_small : made < 2 ^ 32) where
  id_fits : (place : ℕ) → place < made → state_id.Fits (offload_id (name_at boot place))
  unfolding state_id
  id_fits place below = (lit< tt, (lit< tt, (boot_small, omega (arith, below, made_small))))

  end_told : (safe : Bool) (end : OffloadEnd) → EndIsRight safe end → EndCanBeTold end
  end_told safe (ends.Done response) is = is.1
  end_told safe (ends.Failed status count) is = is

  safe_end : (safe : Bool) (end : OffloadEnd) → EndIsRight safe end → ends_stable end ≡ true → safe ≡ true
  safe_end safe (ends.Done response) is stable = is.0
  safe_end safe (ends.Failed status count) is stable = absurd cc

  same_name : (name other : JobName) → is_name name other ≡ true → name ≡ other
  same_name name other is =
      let both = and_parts (name.boot == other.boot) (name.number == other.number) is in
      let boots : name.boot ≡ other.boot = eqb-true name.boot other.boot both.0 in
      let numbers : name.number ≡ other.number = eqb-true name.number other.number both.1 in
      ap (λ (b : ℕ). so b name.number) boots ∙ ap (λ (n : ℕ). so other.boot n) numbers
    where
      so : (boot number : ℕ) → JobName
      so boot number = record { boot = boot; number = number }

  says_safe : (bytes : List ℕ) → IsBytes bytes → SaysRight mic (TellsRight boot made safe) bytes → (name : JobName) → meaning.reports (ops_of bytes) name ≡ true → Safe boot made safe name
  says_safe bytes are says name reported =
      let told = says.told in
      let right = says.right_is in
      let id : told.id ≡ offload_id (name_at boot right.place) = right.id in
      let can : CanBeTold told = record {
        handle = right.handle;
        id = subst state_id.Fits (sym id) (id_fits right.place right.given);
        end = end_told (safe right.place) told.end right.end;
      } in
      let said = read says.side says.xid says.program says.slot told says.handle says.small says.session can (subst IsBytes says.is are) name in
      let both = and_parts (ends_stable told.end) (is_name name (job_named told.id)) (sym said ∙ sym (ap (λ (b : List ℕ). meaning.reports (ops_of b) name) says.is) ∙ reported) in
      record {
        place = right.place;
        given = right.given;
        named = same_name name (job_named told.id) both.1 ∙ ap job_named id;
        is = safe_end (safe right.place) told.end right.end both.0;
      }

  to_safe : (to : To) (bytes : List ℕ) (sealed : Option Seal) (seal : Seal) → sealed ≡ Some seal → seal.owner ≡ Client → IsBytes bytes
      → IfConn to (SaysRight mic (TellsRight boot made safe) bytes) (IsNotClients sealed) → (name : JobName) → meaning.reports (ops_of bytes) name ≡ true → Safe boot made safe name
  to_safe (Conn conn) bytes sealed seal is owner are right name reported = says_safe bytes are right name reported
  to_safe (Source worker) bytes sealed seal is owner are own name reported = absurd (own seal is owner)
  to_safe (Server end) bytes sealed seal is owner are own name reported = absurd (own seal is owner)

  -- among all that goes out
  any_safe : (sent : List Outgoing) → GoRight mic (TellsRight boot made safe) sent → AllByRecursion (λ (out : Outgoing). IsBytes out.bytes) sent
      → (x : Sent) (place : ℕ) → place < length (map sent_of sent) → slice_index_or (map sent_of sent) place x ≡ x → (seal : Seal) → x.seal ≡ Some seal → seal.owner ≡ Client
      → (name : JobName) → meaning.reports (ops_of x.bytes) name ≡ true → Safe boot made safe name
  any_safe [] go are x place below there seal is owner name reported = absurd (omega (arith, below))
  any_safe (out ∷ sent) go are x zero below there seal is owner name reported =
      to_safe out.to out.bytes out.seal seal (ap (λ (y : Sent). y.seal) there ∙ is) owner are.0 go.0 name (ap (λ (y : Sent). meaning.reports (ops_of y.bytes) name) there ∙ reported)
  any_safe (out ∷ sent) go are x (suc place) below there seal is owner name reported =
      any_safe sent go.1 are.1 x place (omega (arith, below)) there seal is owner name reported

  pub sends_safe : (sent : List Outgoing) → GoRight mic (TellsRight boot made safe) sent → AllByRecursion (λ (out : Outgoing). IsBytes out.bytes) sent
      → (x : Sent) → Contains (map sent_of sent) x → (seal : Seal) → x.seal ≡ Some seal → seal.owner ≡ Client → (name : JobName) → meaning.reports (ops_of x.bytes) name ≡ true
      → Safe boot made safe name
  sends_safe sent go are x there seal is owner name reported = any_safe sent go are x there.0 there.1 there.2 seal is owner name reported

-- ---- a test that some record passes

any_passes : (test : Sent → Bool) (sent : List Sent) → list_any test sent ≡ true → (x : Sent) × Contains sent x × (test x ≡ true)
any_passes test [] is = absurd cc
any_passes test (x ∷ sent) is = by (test x) refl is (λ found. any_passes test sent found)
  where
    later : (y : Sent) → Contains sent y → Contains (x ∷ sent) y
    later y there = let below = there.1 in (suc there.0, omega (arith, below), there.2)

    by : (b : Bool) → test x ≡ b → (b || list_any test sent) ≡ true → (list_any test sent ≡ true → (y : Sent) × Contains sent y × (test y ≡ true))
        → (y : Sent) × Contains (x ∷ sent) y × (test y ≡ true)
    by true passes found more = (x, (zero, omega arith, refl), passes)
    by false passes found more = let rest = more found in (rest.0, later rest.0 rest.1, rest.2)

passes_any : (test : Sent → Bool) (sent : List Sent) (x : Sent) (place : ℕ) → place < length sent → slice_index_or sent place x ≡ x → test x ≡ true → list_any test sent ≡ true
passes_any test [] x place below there is = absurd (omega (arith, below))
passes_any test (y ∷ sent) x zero below there is = or_left (test y) (list_any test sent) (ap test there ∙ is)
passes_any test (y ∷ sent) x (suc place) below there is = or_right (test y) (list_any test sent) (passes_any test sent x place (omega (arith, below)) there is)

-- what is sealed for the client isn't sealed by a server's context
servers_never : (sent : List Outgoing) → AllByRecursion IsServers sent → (x : Sent) (place : ℕ) → place < length (map sent_of sent) → slice_index_or (map sent_of sent) place x ≡ x
    → (seal : Seal) → x.seal ≡ Some seal → seal.owner ≡ Client → ⊥
servers_never [] own x place below there seal is owner = omega (arith, below)
servers_never (out ∷ sent) own x zero below there seal is owner =
    let dest = own.0 seal (ap (λ (y : Sent). y.seal) there ∙ is) in let both = sym owner ∙ dest in cc
servers_never (out ∷ sent) own x (suc place) below there seal is owner = servers_never sent own.1 x place (omega (arith, below)) there seal is owner

pub none_sealed : (P : JobName → Type 0) (sent : List Outgoing) → AllByRecursion IsServers sent → (x : Sent) → Contains (map sent_of sent) x → (seal : Seal) → x.seal ≡ Some seal
    → seal.owner ≡ Client → (name : JobName) → meaning.reports (ops_of x.bytes) name ≡ true → P name
none_sealed P sent own x there seal is owner name reported = absurd (servers_never sent own x there.0 there.1 there.2 seal is owner)

pub are_told : (right : Ended → Type 0) (c e : CallbackTable) → StaysTold c e → AreRight right c → AreRight right e
are_told right c e stays are = record {
  tells = λ told is. are.tells told (stays.told told is);
  fit = subst (λ (lines : List Line). AllByRecursion (λ line. length line.caller.handle ≡ 8) lines) (sym stays.lines) are.fit;
}

-- a step that executes nothing says of no copy that it is complete
pub none_told : (P : JobName → Type 0) (name : JobName) → says_stable meaning name None ≡ true → P name
none_told P name is = absurd cc

-- where nothing goes out, nothing that goes out says anything
pub nothing_sent : (P : JobName → Type 0) (sent : List Outgoing) → sent ≡ [] → (x : Sent) → Contains (map sent_of sent) x → (seal : Seal) → x.seal ≡ Some seal → seal.owner ≡ Client
    → (name : JobName) → meaning.reports (ops_of x.bytes) name ≡ true → P name
nothing_sent P sent none x there seal is owner name reported =
    let below = (subst (λ (l : List Outgoing). Contains (map sent_of l) x) none there).1 in absurd (omega (arith, below))

-- where a destination rests, its jobs stay
pub rests_by : {M : Type 0} (d : DestState M) (t : DestStep M) → t.host ≡ d → ByDeeds (copier_in d).copies.book (copier_in t.host).copies.book
unfolding Comes
rests_by {M} d t same = subst (λ (h : DestState M). ByDeeds (copier_in d).copies.book (copier_in h).copies.book) (sym same) ([], refl)

-- ---- a step of a system

-- the laws of deeds: a history stays linked, and numbers are given out
abbrev pub KeepAll : Type 0
KeepAll =
    (plan_of : Planned) (deeds : List Deed) (b c : BookView) → Comes deeds b c → (old new : ℕ → Copy) → AreLinked plan_of b.table old
    → GoOn plan_of b.table c.table old new → (place : ℕ) → place < b.table.made → CopyKeeps (entries_in (name_at c.table.boot place) deeds) (old place) (new place)

abbrev pub LaterAll : Type 0
LaterAll = (deeds : List Deed) (b c : BookView) → Comes deeds b c → Later b.table c.table

module _ {M : Type 0} (accepts : List ℕ → Option (List ℕ)) (whose : List ℕ → Option End) (mic : Mic) (read : AreRead mic) (s : System) (k : ℕ) (took : Option (List ℕ)) (speaker : Speaker)
    (executed : Option Executed) (d : DestState M) (t : DestStep M) (shows : ShowsStep (spelling accepts whose) meaning s k took speaker executed d t)
    (keep : KeepAll) (laters : LaterAll) (by : ByDeeds (copier_in d).copies.book (copier_in t.host).copies.book) where
  later : Later (table_in d) (table_in t.host)
  later = laters by.0 (copier_in d).copies.book (copier_in t.host).copies.book by.1

  made_before : s.made k ≡ (table_in d).made
  made_before = shows.before.made

  made_after : s.made (suc k) ≡ (table_in t.host).made
  made_after = shows.after.made

  pub few : s.made k ≤ s.made (suc k)
  few = let le = later.made in omega (arith, made_before, made_after, le)

  got_safe : (more : List Entry) (old new : Copy) → GotOrRetired more old new → is_committed old.entries ≡ true → is_committed new.entries ≡ true
  got_safe more old new got is = elim got [
    | inl grown ↦ ap is_committed grown ∙ any_more old.entries more is
    | inr retired ↦ ap is_committed retired.1 ∙ is
  ]

  -- what is safe stays so
  pub stays_safe : (place : ℕ) → place < s.made k → safe_at s k place ≡ true → safe_at s (suc k) place ≡ true
  stays_safe place below is =
      let kept =
      keep plan_seen by.0 (copier_in d).copies.book (copier_in t.host).copies.book by.1 (λ j. s.job k j) (λ j. s.job (suc k) j) shows.before.linked shows.goes place
      (subst (λ (n : ℕ). place < n) made_before below) in
      got_safe (entries_in (name_at (table_in t.host).boot place) by.0) (s.job k place) (s.job (suc k) place) kept.entries is

  abbrev Boot : ℕ
  Boot = (table_in t.host).boot

  pub are_then : IsToldRight s k d → AreRight (TellsRight Boot (s.made (suc k)) (safe_at s (suc k))) (copier_in d).back
  are_then held =
      subst (λ (b : ℕ). AreRight (TellsRight b (s.made (suc k)) (safe_at s (suc k))) (copier_in d).back) (sym later.boot)
      (are_more (table_in d).boot (s.made k) (s.made (suc k)) (safe_at s k) (safe_at s (suc k)) few stays_safe (copier_in d).back held.are)

  pub within_then : IsToldRight s k d → IsWithin Boot (s.made (suc k)) (table_in d)
  within_then held = record { given = held.given; boot_is = sym later.boot; few = let le = later.made in omega (arith, made_after, le) }

  pub go_safe : IsFair d t → GoRight mic (TellsRight Boot (s.made (suc k)) (safe_at s (suc k))) t.out.sent → (x : Sent) → Contains (map sent_of t.out.sent) x → (seal : Seal) → x.seal ≡ Some seal
      → seal.owner ≡ Client → (name : JobName) → meaning.reports (ops_of x.bytes) name ≡ true → IsSafe Boot (s.made (suc k)) (safe_at s (suc k)) name
  go_safe fair go x there seal is owner name reported =
      sends_safe mic read Boot (s.made (suc k)) (safe_at s (suc k)) fair.boot (let small = fair.made in omega (arith, small, made_after)) t.out.sent go fair.bytes x
      there seal is owner name reported

  -- what was safe is, under the same name
  pub safe_then : (name : JobName) → IsSafe (table_in d).boot (s.made k) (safe_at s k) name → IsSafe Boot (s.made (suc k)) (safe_at s (suc k)) name
  safe_then name is =
      let low = is.given in
      record {
        place = is.place;
        given = omega (arith, low, few);
        named = is.named ∙ ap (λ (b : ℕ). name_at b is.place) (sym later.boot);
        is = stays_safe is.place is.given is.is;
      }

  -- a job that is there and committed is safe
  pub committed_safe : IsToldRight s k d → (name : JobName) → IsCommitted (table_in t.host) name → IsSafe Boot (s.made (suc k)) (safe_at s (suc k)) name
  committed_safe held name is =
      let all : AreGiven (table_in t.host) = stay_given (copier_in d).copies.book (copier_in t.host).copies.book by held.given in
      let within : IsWithin Boot (s.made (suc k)) (table_in t.host) = record { given = all; boot_is = refl; few = omega (arith, made_after) } in
      let given = given_name Boot (s.made (suc k)) (table_in t.host) name is.job within is.there in
      let below : given.place < (table_in t.host).made = subst (λ (n : ℕ). given.place < n) made_after given.below in
      let shown = shows.goes.seen_as given.place below in
      let found : seen_in (table_in t.host) (name_at Boot given.place) ≡ seen (Some is.job) =
      ap (λ (n : JobName). seen_in (table_in t.host) n) (sym given.named) ∙ ap seen is.there in
      let entries : (s.job (suc k) given.place).entries ≡ is.job.log.entries = shown.entries ∙ ap (λ found. (looked_up plan_seen found (s.job k given.place)).entries) found in
      record { place = given.place; given = given.below; named = given.named; is = ap is_committed entries ∙ is.committed }

  module _ (held : IsToldRight s k d) (are : AreRight (TellsRight Boot (s.made (suc k)) (safe_at s (suc k))) (copier_in t.host).back)
      (sends_right : (x : Sent) → Contains (map sent_of t.out.sent) x → (seal : Seal) → x.seal ≡ Some seal → seal.owner ≡ Client → (name : JobName) → meaning.reports (ops_of x.bytes) name ≡ true
      → IsSafe Boot (s.made (suc k)) (safe_at s (suc k)) name)
      (told : (name : JobName) → says_stable meaning name executed ≡ true → IsSafe Boot (s.made (suc k)) (safe_at s (suc k)) name) where
    abbrev IsRight : JobName → Type 0
    IsRight name = IsSafe Boot (s.made (suc k)) (safe_at s (suc k)) name

    sent_safe : (x : Sent) → Contains (s.acts Dest k).out x → (seal : Seal) → x.seal ≡ Some seal → seal.owner ≡ Client → (name : JobName) → meaning.reports (ops_of x.bytes) name ≡ true → IsRight name
    sent_safe x there seal is owner name reported = sends_right x (subst (λ (a : Acts). Contains a.out x) shows.acts there) seal is owner name reported

    seal_safe : (x : Sent) → Contains (s.acts Dest k).out x → (sealed : Option Seal) → x.seal ≡ sealed → (name : JobName) → is_clients sealed ≡ true
        → meaning.reports (ops_of x.bytes) name ≡ true → IsRight name
    seal_safe x there None is name clients reported = absurd cc
    seal_safe x there (Some seal) is name clients reported = sent_safe x there seal is (client_is seal.owner clients) name reported

    abbrev Reports : JobName → Sent → Bool
    Reports name x = reports (spelling accepts whose) meaning name x

    reported_safe : (name : JobName) → is_reported (spelling accepts whose) meaning (s.acts Dest k) name ≡ true → IsRight name
    reported_safe name is =
        elim (or_parts (list_any (Reports name) (s.acts Dest k).out) (says_stable meaning name (s.acts Dest k).executed) is) [
          | inl any ↦
              let x = any_passes (Reports name) (s.acts Dest k).out any in
              let both = and_parts (is_clients x.0.seal) (is_callback x.0.bytes && meaning.reports (ops_of x.0.bytes) name) x.2 in
              let rest = and_parts (is_callback x.0.bytes) (meaning.reports (ops_of x.0.bytes) name) both.1 in
              seal_safe x.0 x.1 x.0.seal refl name both.0 rest.1
          | inr says ↦ told name (subst (λ (a : Acts). says_stable meaning name a.executed ≡ true) shows.acts says)
        ]

    -- the copy at this place, once its name is safe
    place_safe : (j : ℕ) → IsRight (name_at Boot j) → (j < s.made (suc k)) × (safe_at s (suc k) j ≡ true)
    place_safe j right =
        let same : j + 1 ≡ right.place + 1 = ap (λ (n : JobName). n.number) right.named in
        let at : right.place ≡ j = omega (arith, same) in
        (subst (λ (n : ℕ). n < s.made (suc k)) at right.given, ap (safe_at s (suc k)) (sym at) ∙ right.is)

    mark_right : (j : ℕ) (there : Bool) → nat_lt j (table_in t.host).made ≡ there → (s.job (suc k) j).stable ≡ true → (j < s.made (suc k)) × (safe_at s (suc k) j ≡ true)
    mark_right j true there is =
        let below : j < (table_in t.host).made = ltb-true j (table_in t.host).made there in
        elim (or_parts (s.job k j).stable (is_reported (spelling accepts whose) meaning (s.acts Dest k) (name_at Boot j)) (sym (shows.marked j below) ∙ is)) [
          | inl before ↦
              let old = held.marks j before in
              let low = old.0 in
              (omega (arith, low, few), stays_safe j old.0 old.1)
          | inr reported ↦ place_safe j (reported_safe (name_at Boot j) reported)
        ]
    mark_right j false there is =
        let above : (table_in t.host).made ≤ j = ltb-false j (table_in t.host).made there in
        let none : (s.job (suc k) j).stable ≡ false = ap (λ (c : Copy). c.stable) (shows.after.none_yet j above) in
        absurd (let both = sym none ∙ is in cc)

    pub marks_then : MarksAreRight s (suc k)
    marks_then j is = mark_right j (nat_lt j (table_in t.host).made) refl is

    pub reports_then : (bytes : List ℕ) (seal : Seal) (name : JobName) → Sends (s.acts Dest k) bytes (Some seal) → seal.owner ≡ Client → is_callback bytes ≡ true
        → meaning.reports (ops_of bytes) name ≡ true → IsReported s (suc k) name
    reports_then bytes seal name sends owner called reported =
        let x : Sent = record { bytes = bytes; seal = Some seal } in
        let right = sent_safe x sends seal refl owner name reported in
        let below : right.place < (table_in t.host).made = subst (λ (n : ℕ). right.place < n) made_after right.given in
        let test : Reports name x ≡ true = rw (owner, called, reported) refl in
        let any : list_any (Reports name) (s.acts Dest k).out ≡ true = passes_any (Reports name) (s.acts Dest k).out x sends.0 sends.1 sends.2 test in
        let all : is_reported (spelling accepts whose) meaning (s.acts Dest k) (name_at Boot right.place) ≡ true =
        subst (λ (n : JobName). is_reported (spelling accepts whose) meaning (s.acts Dest k) n ≡ true) right.named
        (or_left (list_any (Reports name) (s.acts Dest k).out) (says_stable meaning name (s.acts Dest k).executed) any) in
        record {
          copy = right.place;
          there = right.given;
          named = shows.after.names right.place ∙ sym right.named;
          stable = shows.marked right.place below ∙ or_right (s.job k right.place).stable _ all;
        }

    -- an answer that a copy is complete is one of a copy that is reported as stable
    pub status_then : (os results : List ℕ) (name : JobName) → (s.acts Dest k).executed ≡ Some (record { ops = os; results = results }) → meaning.asks_status os ≡ Some name
        → meaning.says_complete results ≡ true → IsReported s (suc k) name
    status_then os results name is asks complete =
        let says : says_stable meaning name (s.acts Dest k).executed ≡ true = rw (is, asks, complete, eq-eqb name.boot name.boot refl, eq-eqb name.number name.number refl) refl in
        let right = told name (subst (λ (a : Acts). says_stable meaning name a.executed ≡ true) shows.acts says) in
        let below : right.place < (table_in t.host).made = subst (λ (n : ℕ). right.place < n) made_after right.given in
        let all : is_reported (spelling accepts whose) meaning (s.acts Dest k) (name_at Boot right.place) ≡ true =
        subst (λ (n : JobName). is_reported (spelling accepts whose) meaning (s.acts Dest k) n ≡ true) right.named
        (or_right (list_any (Reports name) (s.acts Dest k).out) (says_stable meaning name (s.acts Dest k).executed) says) in
        record {
          copy = right.place;
          there = right.given;
          named = shows.after.names right.place ∙ sym right.named;
          stable = shows.marked right.place below ∙ or_right (s.job k right.place).stable _ all;
        }

    pub held_then : SessionsFit t.host.state.sessions → HaveCauses (table_in t.host) → IsToldRight s (suc k) t.host
    held_then fit have = record { are = are; given = stay_given (copier_in d).copies.book (copier_in t.host).copies.book by held.given; fit = fit; marks = marks_then; have = have }

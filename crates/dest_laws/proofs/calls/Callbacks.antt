-- A callback goes out by the next number, under a context of its client's.
use Rattle.std.proofs.Common.{◌≡◌, ◌∙◌, ◌⊎◌, inl, inr, ℕ, ◌+◌, ◌<◌, ◌≤◌, Bool, true, false, List, [], ◌∷◌, ◌++◌, length, get_or, Option, Some, None, refl, sym, ap, subst, arith}
use Rattle.std.proofs.lemmas.Bool.{cases_eq, cases_lt, ltb-true}
use Rattle.std.proofs.lemmas.List.{get_or-set_other, get_or-set_same, get_or_past, length-set}
use Rattle.std.specs.Prelude.{◌==◌, filter, map, max, nat_lt, slice_index, slice_set, if◌then◌else◌, ◌^◌}
use Rattle.std.specs.List.{AllByRecursion}
use Rattle.caller_laws.specs.Good.{Identity}
use Rattle.caller_laws.specs.OneStep.Besides.{AreBesides, IsElsewhere}
use Rattle.copy_ops.specs.declared.callback.OffloadEnd.{OffloadEnd}
use Rattle.copy_ops.specs.declared.callback.OffloadEnd.TheVariants as offloads
use Rattle.dest_back.specs.Callbacks.{CallbackTable, line_for, line_of, or_fresh, post_at, stays, with_line, with_post}
use Rattle.dest_back.specs.Telling as backs
use Rattle.dest_back.specs.declared.callbacks.Awaiting.{Awaiting}
use Rattle.dest_back.specs.declared.callbacks.Party.{Party}
use Rattle.dest_back.specs.declared.callbacks.Post.{Post}
use Rattle.dest_back.specs.declared.compound.Ended.{Ended}
use Rattle.dest_back.specs.declared.line.Line.{Line}
use Rattle.dest_back.specs.declared.telling.CallAt.{CallAt}
use Rattle.dest_back.specs.declared.telling.Sent.{Sent}
use Rattle.dest_laws.specs.Calls.Settled.{AreClients, IsClientsCall, IsClientsLine, IsClientsPost}
use Rattle.dest_steps.specs.Copier.{Around, Codes, last_xid, xid_of}
use Rattle.dest_steps.specs.Telling as tellings
use Rattle.dest_steps.specs.declared.copier.Copier.{Copier}
use Rattle.dest_steps.specs.declared.telling.Telling.{Telling}
use Rattle.dest_tasks.specs.Seats.{seat_of}
use Rattle.gss_ctx.specs.Calls.{Side, seal_of}
use Rattle.gss_ctx.specs.Seals.{Mic}
use Rattle.gss_ctx.specs.declared.caller.Sealed.{Sealed}
use Rattle.job_book.specs.Book.{named}
use Rattle.job_table.specs.Table.{status_of}
use Rattle.job_table.specs.declared.job.Job.{Job}
use Rattle.mount.specs.State.{Mounted}
use Rattle.nfs_base.specs.declared.job.JobName.{JobName}
use Rattle.nfs_base.specs.declared.job.Stop.{Stop}
use Rattle.nfs_base.specs.declared.seal.End.TheVariants.{Client, Source}
use Rattle.nfs_base.specs.declared.seal.Seal.{Seal}
use Rattle.nfs_base.specs.declared.status.Status.{Status}
use Rattle.outbox.specs.declared.outgoing.Outgoing.{Outgoing}
use Rattle.sess_slots.specs.Begins.{back_at}
use Rattle.sess_slots.specs.Table.{SessionTable}
use Rattle.sess_slots.specs.declared.answers.Back.{Back}
use Rattle.session_client.specs.Sealing.{after_call}
use Rattle.session_client.specs.Slots.{after_new}
use Rattle.wire_machine.specs.History.{sent_of}
use Rattle.wire_spelling.specs.Calls.{xid_in}
use Rattle.wire_spelling.specs.ReadLaws.{call_xid}
use Rattle.wire_spelling.specs.Spelling.{spelling}

-- ---- lists

kept : {X : Type 0} (P : X → Type 0) (b : Bool) (x : X) (ys : List X) → P x → AllByRecursion P ys → AllByRecursion P (if b then x ∷ ys else ys)
kept P true x ys it all = (it, all)
kept P false x ys it all = all

pub all_filter : {X : Type 0} (P : X → Type 0) (test : X → Bool) (xs : List X) → AllByRecursion P xs → AllByRecursion P (filter test xs)
all_filter P test [] all = tt
all_filter P test (x ∷ xs) all = kept P (test x) x (filter test xs) all.0 (all_filter P test xs all.1)

pub all_more : {X : Type 0} (P : X → Type 0) (xs : List X) (x : X) → AllByRecursion P xs → P x → AllByRecursion P (xs ++ x ∷ [])
all_more P [] x all it = (it, tt)
all_more P (y ∷ xs) x all it = (all.0, all_more P xs x all.1 it)

-- ---- numbers

pub record IsNext (m : Mounted) (c : CallbackTable) (xid : ℕ) : Type 0 where
  pub is : xid ≡ last_xid m c + 1
  pub small : xid < 2 ^ 32
  pub mount : m.calls < xid
  pub back : c.calls < xid

pub max_left : (a b : ℕ) → a ≤ max a b
max_left a b = omega arith

pub max_right : (a b : ℕ) → b ≤ max a b
max_right a b = omega arith

pub max_of : (a b : ℕ) → a ≤ b → max a b ≡ b
max_of a b le = omega arith

pub next_of : (m : Mounted) (c : CallbackTable) (xid : ℕ) → xid_of m c ≡ Some xid → IsNext m c xid
next_of m c xid is = by (nat_lt (last_xid m c) 4294967295) refl is
  where
    by : (b : Bool) → nat_lt (last_xid m c) 4294967295 ≡ b → (if b then Some (last_xid m c + 1) else None) ≡ Some xid → IsNext m c xid
    by true lt e =
        let below : last_xid m c < 4294967295 = ltb-true (last_xid m c) 4294967295 lt in
        let same : last_xid m c + 1 ≡ xid = cc in
        let left = max_left m.calls c.calls in
        let right = max_right m.calls c.calls in
        record { is = sym same; small = omega (arith, below, same); mount = omega (arith, left, same); back = omega (arith, right, same) }
    by false lt e = absurd cc

-- ---- what is told

pub record Tells (who : Identity) (m : Mounted) (back : CallbackTable) (sent : List Outgoing) (new : CallbackTable) : Type 0 where
  pub are : AreBesides (spelling who.accepts who.whose) Source (last_xid m back) (map sent_of sent) (last_xid m new)
  pub clients : AreClients new

no_source : {A : Type 0} → Client ≡ Source → A
no_source e = absurd cc

elsewhere : (bytes : List ℕ) (had : Seal) → had.owner ≡ Client → IsElsewhere Source (record { bytes = bytes; seal = Some had })
elsewhere bytes had is seal same own =
    let one : had ≡ seal = cc in
    no_source (sym is ∙ ap (λ (s : Seal). s.owner) one ∙ own)

pub posts_with : (c : CallbackTable) (seat : ℕ) (post : Post) → ((other : ℕ) → IsClientsPost (post_at c other)) → IsClientsCall post.awaiting
    → (other : ℕ) → IsClientsPost (post_at (with_post seat post c) other)
posts_with c seat post all it other =
    elim (cases_eq other seat) [
      | inl same ↦ elim (cases_lt seat (length c.posts)) [
        | inl there ↦
            subst IsClientsPost
            (sym (ap (λ (k : ℕ). get_or (slice_set c.posts seat (Some post)) k None) same ∙ get_or-set_same c.posts seat (Some post) None there)) it
        | inr past ↦
            let short : length (slice_set c.posts seat (Some post)) ≤ other = omega (arith, length-set c.posts seat (Some post), past, same) in
            subst IsClientsPost (sym (get_or_past (slice_set c.posts seat (Some post)) other None short)) tt
      ]
      | inr apart ↦ subst IsClientsPost (sym (get_or-set_other c.posts seat other (Some post) None apart)) (all other)
    ]

module _ (who : Identity) (m : Mounted) where
  pub tells_none : (c : CallbackTable) → AreClients c → Tells who m c [] c
  tells_none c clients = record { are = omega arith; clients = clients }

  abbrev Went : CallbackTable → Option Sent × CallbackTable → Type 0
  Went c o = Tells who m c (tellings.callbacks o.0) o.1

  sent_goes : (sessions : SessionTable) (at : CallAt) (post : Post) (back : Back) (line : Line) (number : ℕ) (told : Ended) (sealed : Sealed) (side : Side) (c : CallbackTable)
      → AreClients c → IsNext m c at.xid → IsClientsLine line → side.owner ≡ Client → xid_in sealed.bytes ≡ at.xid
      → Went c (backs.sent_on sessions at post back line number told (Some sealed, side) c)
  sent_goes sessions at post back line number told sealed side c clients next own owner xid = record {
    are =
        let low = next.is in
        let top = max_right m.calls at.xid in
        (elsewhere sealed.bytes (seal_of line.caller sealed.awaited.seq) own, inr (omega (arith, low, xid), omega (arith, top, xid)));
    clients = record {
      lines =
          all_more IsClientsLine (filter (stays sessions line.session) c.lines) (record line { caller = side })
          (all_filter IsClientsLine (stays sessions line.session) c.lines clients.lines) owner;
      posts = posts_with (record c { calls = at.xid; lines = with_line sessions (record line { caller = side }) c.lines }) at.seat
          (record post { awaiting = Some (backs.awaiting_of at line number told sealed) }) clients.posts own;
    };
  }

  called_goes : (mic : Mic) (sessions : SessionTable) (at : CallAt) (post : Post) (back : Back) (line : Line) (number : ℕ) (told : Ended) (c : CallbackTable)
      → AreClients c → IsNext m c at.xid → IsClientsLine line → Went c (backs.called_on mic sessions at post back line number told c)
  called_goes mic sessions at post back line number told c clients next own = by (nat_lt line.caller.next 2147483648)
    where
      by : (b : Bool) → Went c (backs.sent_on sessions at post back line number told
          (if b then (Some (backs.sealed_callback mic line.caller at.xid back.program (backs.slot_use at line number) told), after_call line.caller) else (None, line.caller)) c)
      by true = sent_goes sessions at post back line number told _ (after_call line.caller) c clients next own own (call_xid _ _ next.small)
      by false = tells_none c clients

  new_goes : (mic : Mic) (sessions : SessionTable) (at : CallAt) (post : Post) (back : Back) (told : Ended) (line : Line) (c : CallbackTable)
      → AreClients c → IsNext m c at.xid → IsClientsLine line → Went c (backs.new_on mic sessions at post back told line c)
  new_goes mic sessions at post back told line c clients next own = by (nat_lt (slice_index line.numbers at.seat) 4294967295)
    where
      by : (b : Bool) → Went c (if b
          then backs.called_on mic sessions at post back (record line { numbers = after_new line.numbers at.seat }) (slice_index line.numbers at.seat) told c
          else (None, c))
      by true = called_goes mic sessions at post back (record line { numbers = after_new line.numbers at.seat }) (slice_index line.numbers at.seat) told c clients next own
      by false = tells_none c clients

  chosen : (b : Bool) (first line : Line) (rest : Option Line) → (if b then Some first else rest) ≡ Some line → (first ≡ line) ⊎ (rest ≡ Some line)
  chosen true first line rest e = inl cc
  chosen false first line rest e = inr e

  found_line : (session : ℕ) (lines : List Line) (line : Line) → AllByRecursion IsClientsLine lines → line_of session lines ≡ Some line → IsClientsLine line
  found_line session [] line all is = absurd cc
  found_line session (first ∷ lines) line all is =
      elim (chosen (first.session == session) first line (line_of session lines) is) [
        | inl same ↦ subst IsClientsLine same all.0
        | inr later ↦ found_line session lines line all.1 later
      ]

  line_clients : (derived : List ℕ → ℕ → List ℕ → List ℕ) (party : Party) (back : Back) (c : CallbackTable) → AreClients c → IsClientsLine (line_for derived party back c.lines)
  line_clients derived party back c clients = by (line_of party.session c.lines) refl
    where
      by : (o : Option Line) → line_of party.session c.lines ≡ o → IsClientsLine (or_fresh derived party back o)
      by None is = refl
      by (Some line) is = found_line party.session c.lines line clients.lines is

  told_goes : (mic : Mic) (derived : List ℕ → ℕ → List ℕ → List ℕ) (sessions : SessionTable) (at : CallAt) (ended : Ended) (c : CallbackTable) (post : Option Post)
      → AreClients c → IsNext m c at.xid → Went c (backs.told_at mic derived sessions at ended post c)
  told_goes mic derived sessions at ended c None clients next = tells_none c clients
  told_goes mic derived sessions at ended c (Some post) clients next = by (back_at sessions post.party.session)
    where
      by : (o : Option Back) → Went c (backs.told_to mic derived sessions at ended post o c)
      by None = tells_none c clients
      by (Some back) = new_goes mic sessions at post back ended (line_for derived post.party back c.lines) c clients next (line_clients derived post.party back c clients)

  again_goes : (mic : Mic) (derived : List ℕ → ℕ → List ℕ → List ℕ) (sessions : SessionTable) (at : CallAt) (c : CallbackTable) (post : Option Post)
      → AreClients c → IsNext m c at.xid → Went c (backs.again_at mic derived sessions at post c)
  again_goes mic derived sessions at c None clients next = tells_none c clients
  again_goes mic derived sessions at c (Some post) clients next = waits post.awaiting
    where
      to : (awaiting : Awaiting) (o : Option Back) → Went c (backs.again_to mic derived sessions at post awaiting o c)
      to awaiting None = tells_none c clients
      to awaiting (Some back) =
          called_goes mic sessions at post back (line_for derived post.party back c.lines) awaiting.number awaiting.told c clients next (line_clients derived post.party back c clients)

      waits : (o : Option Awaiting) → Went c (backs.again_for mic derived sessions at post o c)
      waits None = tells_none c clients
      waits (Some awaiting) = to awaiting (back_at sessions post.party.session)

  pub told_again_goes : (mic : Mic) (derived : List ℕ → ℕ → List ℕ → List ℕ) (sessions : SessionTable) (at : CallAt) (c : CallbackTable)
      → AreClients c → IsNext m c at.xid → Went c (backs.told_again mic derived sessions at c)
  told_again_goes mic derived sessions at c clients next = again_goes mic derived sessions at c (post_at c at.seat) clients next

-- ---- how a job ended

abbrev pub TellsBy : Identity → Mounted → CallbackTable → Telling → Type 0
TellsBy who m back told = Tells who m back told.sent told.back

module _ (who : Identity) (codes : Codes) (around : Around) (x : Copier) (clients : AreClients x.back) where
  telling_goes : (name : JobName) (end : OffloadEnd) → TellsBy who x.work.mount x.back (tellings.telling codes around name end x)
  telling_goes name end = by (xid_of x.work.mount x.back) refl (seat_of name.number x.work.seats) (named x.copies.book.table name)
    where
      by : (xid : Option ℕ) → xid_of x.work.mount x.back ≡ xid → (seat : Option ℕ) (job : Option Job)
          → TellsBy who x.work.mount x.back (tellings.telling_by codes around name end xid seat job x)
      by None is seat job = tells_none who x.work.mount x.back clients
      by (Some xid) is None job = tells_none who x.work.mount x.back clients
      by (Some xid) is (Some seat) None = tells_none who x.work.mount x.back clients
      by (Some xid) is (Some seat) (Some job) =
          told_goes who x.work.mount codes.mic codes.derived around.sessions (tellings.call_at around seat xid) (tellings.ended_of around name job end) x.back
          (post_at x.back seat) clients (next_of x.work.mount x.back xid is)

  pub commit_goes : (name : JobName) → TellsBy who x.work.mount x.back (tellings.commit_telling codes around name x)
  commit_goes name = telling_goes name (tellings.safe_end around.boot (tellings.landed_by name x))

  pub stop_goes : (name : JobName) (cause : Stop) → TellsBy who x.work.mount x.back (tellings.stop_telling codes around name cause x)
  stop_goes name cause = by (status_of cause)
    where
      by : (o : Option Status) → TellsBy who x.work.mount x.back (tellings.stop_telling_by codes around name o x)
      by None = tells_none who x.work.mount x.back clients
      by (Some status) = telling_goes name (offloads.Failed status (tellings.landed_by name x))

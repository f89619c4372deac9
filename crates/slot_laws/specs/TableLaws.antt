-- Clients and sessions are made and ended without a slot that moves.
use Rattle.std.proofs.Common.{◌≡◌, inl, inr, ℕ, ◌+◌, Bool, true, false, List, [], ◌∷◌, ◌++◌, length, Option, Some, None, refl, sym, ap, ◌∙◌, arith}
use Rattle.std.specs.Prelude.{◌==◌, ◌||◌, filter, not, nat_le, option_to_list, if◌then◌else◌}
use Rattle.nfs_base.specs.declared.limits.TheConstants.{MOST_SESSIONS}
use Rattle.sess_slots.specs.declared.answers.Back.{Back}
use Rattle.sess_slots.specs.declared.client.Client.{Client}
use Rattle.sess_slots.specs.declared.session.Session.{Session}
use Rattle.sess_slots.specs.Clients.{beside, create_table, create_table_at, destroy_client_table, destroy_client_table_at, destroy_table, ended_for_room, exchange_table, exchange_table_at, has_session, is_full, known_client, new_session, old_client, session_added, with_client, with_session}
use Rattle.sess_slots.specs.Slots.{next_number}
use Rattle.sess_slots.specs.Table.{SessionTable, client_of_id, has_id, is_among, session_numbered, without}
use Rattle.slot_laws.specs.Sound.{IsSound}
use Rattle.slot_laws.specs.Moves.{Rests}
use Rattle.slot_laws.specs.ListLaws.{append_found, filter_found, rising_append, rising_filter}
use Rattle.slot_laws.specs.RestLaws.{rests_then}

-- ---- the sessions are as before, some are taken out, or one is added

pub rests_same : (v w : SessionTable) → IsSound v → w.sessions ≡ v.sessions → w.sessions_made ≡ v.sessions_made → Rests v w
rests_same v w sound same made = record {
  made = omega (arith, made);
  few = omega (arith, made);
  found = λ n s e. inl (ap (λ xs. session_numbered xs n) (sym same) ∙ e);
  sound = record {
    numbers = rw (same, made) sound.numbers;
    slots = λ n s e. sound.slots n s (ap (λ xs. session_numbered xs n) (sym same) ∙ e);
  };
}

rests_itself : (v : SessionTable) → IsSound v → Rests v v
rests_itself v sound = rests_same v v sound refl refl

rests_filter : (test : Session → Bool) (v w : SessionTable) → IsSound v → w.sessions ≡ filter test v.sessions → w.sessions_made ≡ v.sessions_made → Rests v w
rests_filter test v w sound is made = record {
  made = omega (arith, made);
  few = omega (arith, made);
  found = λ n s e. inl (before n s e);
  sound = record {
    numbers = rw (is, made) (rising_filter test 1 v.sessions v.sessions_made sound.numbers);
    slots = λ n s e. sound.slots n s (before n s e);
  };
}
  where
    before : (n : ℕ) (s : Session) → session_numbered w.sessions n ≡ Some s → session_numbered v.sessions n ≡ Some s
    before n s e = filter_found test 1 n v.sessions v.sessions_made s sound.numbers (ap (λ xs. session_numbered xs n) (sym is) ∙ e)

rests_added : (client : ℕ) (back : Option Back) (v w : SessionTable) → IsSound v
    → w.sessions ≡ v.sessions ++ new_session (v.sessions_made + 1) client back ∷ [] → w.sessions_made ≡ v.sessions_made + 1 → Rests v w
rests_added client back v w sound is made = record {
  made = omega (arith, made);
  few = omega (arith, made);
  found = λ n s e. elim (append_found n v.sessions new s (ap (λ xs. session_numbered xs n) (sym is) ∙ e)) [
    | inl before ↦ inl before
    | inr added ↦ inr (record { above = omega (arith, added.0); slots = ap (λ (x : Session). x.slots) (sym added.1) })
  ];
  sound = record {
    numbers = rw (is, made) (rising_append 1 v.sessions v.sessions_made (v.sessions_made + 1) new refl (omega arith) sound.numbers);
    slots = λ n s e. elim (append_found n v.sessions new s (ap (λ xs. session_numbered xs n) (sym is) ∙ e)) [
      | inl before ↦ sound.slots n s before
      | inr added ↦ ap (λ (x : Session). length x.slots) (sym added.1)
    ];
  };
}
  where
    new : Session
    new = new_session (v.sessions_made + 1) client back

-- ---- EXCHANGE_ID (RFC 8881 section 18.35)

exchange_room : (full : Bool) (table : SessionTable) (principal owner verifier : List ℕ) (now : ℕ) → IsSound table
    → Rests table (if full then table else with_client table principal owner verifier now)
exchange_room true table principal owner verifier now sound = rests_itself table sound
exchange_room false table principal owner verifier now sound =
    rests_filter (λ s. not (is_among (ended_for_room (beside table.clients principal owner) now) s.client)) table
    (with_client table principal owner verifier now) sound refl refl

exchange_at : (known : Option Client) (table : SessionTable) (principal owner verifier : List ℕ) (now : ℕ) → IsSound table
    → Rests table (exchange_table_at known table principal owner verifier now)
exchange_at (Some c) table principal owner verifier now sound = rests_itself table sound
exchange_at None table principal owner verifier now sound =
    exchange_room (is_full (beside table.clients principal owner) now) table principal owner verifier now sound

pub exchange_rests : (table : SessionTable) (principal owner verifier : List ℕ) (now : ℕ) → IsSound table
    → Rests table (exchange_table table principal owner verifier now)
exchange_rests table principal owner verifier now sound =
    exchange_at (known_client table.clients principal owner verifier) table principal owner verifier now sound

-- ---- CREATE_SESSION (section 18.36)

session_rests : (table : SessionTable) (c : Client) (client sequence : ℕ) (asked : Bool) (back : Option Back) → IsSound table
    → Rests table (with_session table c client sequence asked back)
session_rests table c client sequence asked back sound =
    let added : SessionTable = session_added table client sequence asked back in
    let first : Rests table added = rests_added client back table added sound refl refl in
    rests_then table added (with_session table c client sequence asked back) first
    (rests_filter (λ s. not (is_among (option_to_list (old_client table.clients c)) s.client)) added
    (with_session table c client sequence asked back) first.sound refl refl)
    refl

create_room : (full : Bool) (table : SessionTable) (c : Client) (client sequence : ℕ) (asked : Bool) (back : Option Back) → IsSound table
    → Rests table (if full then table else with_session table c client sequence asked back)
create_room true table c client sequence asked back sound = rests_itself table sound
create_room false table c client sequence asked back sound = session_rests table c client sequence asked back sound

create_turn : (next full : Bool) (table : SessionTable) (c : Client) (client sequence : ℕ) (asked : Bool) (back : Option Back) → IsSound table
    → Rests table (if next then (if full then table else with_session table c client sequence asked back) else table)
create_turn true full table c client sequence asked back sound = create_room full table c client sequence asked back sound
create_turn false full table c client sequence asked back sound = rests_itself table sound

create_at : (found : Option Client) (table : SessionTable) (client sequence : ℕ) (asked : Bool) (back : Option Back) → IsSound table
    → Rests table (create_table_at found table client sequence asked back)
create_at None table client sequence asked back sound = rests_itself table sound
create_at (Some c) table client sequence asked back sound =
    create_turn (sequence == next_number c.last) (nat_le MOST_SESSIONS (length table.sessions)) table c client sequence asked back sound

pub create_rests : (table : SessionTable) (client sequence : ℕ) (asked : Bool) (back : Option Back) → IsSound table
    → Rests table (create_table table client sequence asked back)
create_rests table client sequence asked back sound =
    create_at (client_of_id table.clients client) table client sequence asked back sound

-- ---- DESTROY_SESSION and DESTROY_CLIENTID (sections 18.37 and 18.50)

pub destroy_rests : (table : SessionTable) (id : List ℕ) → IsSound table → Rests table (destroy_table table id)
destroy_rests table id sound = rests_filter (λ s. not (has_id table.boot id s)) table (destroy_table table id) sound refl refl

end_at : (found : Option Client) (table : SessionTable) (id : ℕ) (busy : Bool) → IsSound table → Rests table (destroy_client_table_at found table id busy)
end_at None table id busy sound = rests_itself table sound
end_at (Some c) table id true sound = rests_itself table sound
end_at (Some c) table id false sound =
    rests_filter (λ s. not (is_among (id ∷ []) s.client)) table (without (id ∷ []) table) sound refl refl

pub end_rests : (table : SessionTable) (id : ℕ) (holds : Bool) → IsSound table → Rests table (destroy_client_table table id holds)
end_rests table id holds sound = end_at (client_of_id table.clients id) table id (holds || has_session table id) sound

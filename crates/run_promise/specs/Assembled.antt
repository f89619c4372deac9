-- A system is lawful, and truthful, where each of its machines owes what it owes.
use Rattle.std.specs.Prelude.{◌≡◌, ℕ, suc, refl}
use Rattle.nfs_base.specs.declared.seal.End.{End}
use Rattle.nfs_base.specs.declared.seal.End.TheVariants.{Client, Dest, Source}
use Rattle.nfs_base.specs.declared.side.Side.{Side}
use Rattle.run_promise.specs.Dest.Kept.{IsLawfulCaller}
use Rattle.run_promise.specs.Serving.Lawful.{IsLawfulDest, IsLawfulSource, IsSilentCaller}
use Rattle.wire_model.specs.CallerLaws.{CallerLaws, CallerStart}
use Rattle.wire_model.specs.Check.{IsUnmistaken}
use Rattle.wire_model.specs.CopyLaws.{CopiesLaws, CopiesStart, VolumeLaws}
use Rattle.wire_model.specs.Lawful.{IsLawfulSystem, IsTruthful}
use Rattle.wire_model.specs.Meaning.{Meaning}
use Rattle.wire_model.specs.NameLaws.{NameLaws}
use Rattle.wire_model.specs.Spelling.{Spelling}
use Rattle.wire_model.specs.System.{System, dest_effect, wire_of}
use Rattle.wire_model.specs.Told.{IsLawfulWire, TakesSimple, opening}
use Rattle.wire_model.specs.WordLaws.{WordLaws, WordStart}

-- what the client owes as a caller of a server
pub record IsLawfulClient (spell : Spelling) (s : System) (owner : End) : Type 0 where
  pub start : CallerStart (s.caller owner Client 0)
  pub laws : (k : ℕ) → CallerLaws spell owner Client (s.caller owner Client k) (s.caller owner Client (suc k)) (s.acts Client k)

-- all that the parts of a system owe
pub record AreLawful (spell : Spelling) (meaning : Meaning) (s : System) : Type 0 where
  pub source : IsLawfulSource spell meaning s
  pub dest : IsLawfulDest spell s
  pub source_calls : IsSilentCaller spell s
  pub dest_calls : IsLawfulCaller spell s
  pub client_at_source : IsLawfulClient spell s Source
  pub client_at_dest : IsLawfulClient spell s Dest
  pub unmistaken : (owner : End) → IsUnmistaken spell s.acts (opening (wire_of s owner))
  pub volume : (k : ℕ) → TakesSimple spell Dest (s.acts Dest k) → VolumeLaws (s.dest k) (s.dest (suc k)) (dest_effect s k)
  pub copies_start : CopiesStart s
  pub copies : (k : ℕ) → CopiesLaws spell meaning s k
  pub names : (k : ℕ) → NameLaws spell meaning s k
  pub word_start : WordStart s
  pub word : (k : ℕ) → WordLaws spell meaning s k

module _ (spell : Spelling) (meaning : Meaning) (s : System) (are : AreLawful spell meaning s) where
  source_starts : (e : End) → (e ≡ Source → ⊥) → CallerStart (s.caller Source e 0)
  source_starts Source other = absurd (other refl)
  source_starts Dest other = are.dest_calls.start
  source_starts Client other = are.client_at_source.start

  source_callers : (e : End) → (e ≡ Source → ⊥) → (k : ℕ) → CallerLaws spell Source e (s.caller Source e k) (s.caller Source e (suc k)) (s.acts e k)
  source_callers Source other k = absurd (other refl)
  source_callers Dest other k = are.dest_calls.laws k
  source_callers Client other k = are.client_at_source.laws k

  dest_starts : (e : End) → (e ≡ Dest → ⊥) → CallerStart (s.caller Dest e 0)
  dest_starts Source other = are.source_calls.start
  dest_starts Dest other = absurd (other refl)
  dest_starts Client other = are.client_at_dest.start

  dest_callers : (e : End) → (e ≡ Dest → ⊥) → (k : ℕ) → CallerLaws spell Dest e (s.caller Dest e k) (s.caller Dest e (suc k)) (s.acts e k)
  dest_callers Source other k = are.source_calls.laws k
  dest_callers Dest other k = absurd (other refl)
  dest_callers Client other k = are.client_at_dest.laws k

  source_wire : IsLawfulWire spell (wire_of s Source)
  source_wire = record {
    server_start = are.source.start;
    server = are.source.server;
    caller_start = source_starts;
    caller = source_callers;
    unmistaken = are.unmistaken Source;
  }

  dest_wire : IsLawfulWire spell (wire_of s Dest)
  dest_wire = record {
    server_start = are.dest.start;
    server = are.dest.server;
    caller_start = dest_starts;
    caller = dest_callers;
    unmistaken = are.unmistaken Dest;
  }

  pub lawful : IsLawfulSystem spell meaning s
  lawful = record {
    source_wire = source_wire;
    dest_wire = dest_wire;
    source_files = are.source.files;
    source_capacity = are.source.capacity;
    source_start = are.source.formatted_so;
    source = are.source.volume;
    tells = are.source.tells;
    dest_files = are.dest.files;
    dest_capacity = are.dest.capacity;
    dest_start = are.dest.formatted_so;
    dest = are.volume;
    bare_start = are.dest.bare_start;
    bare = are.dest.bare;
    copies_start = are.copies_start;
    copies = are.copies;
  }

  pub truthful : IsTruthful spell meaning s
  truthful = record {
    opening = are.source.opening;
    silent = are.source.silent;
    names = are.names;
    word_start = are.word_start;
    word = are.word;
  }

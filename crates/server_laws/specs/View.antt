-- A server as a wire sees it.
use Rattle.context_laws.specs.View.{root_in}
use Rattle.session_server.specs.Host.{HostState}
use Rattle.slot_laws.specs.View.{kept_in, last_in}
use Rattle.wire_model.specs.Wire.{Server}

-- its opening, how many contexts it has made, their roots, and the slots of its sessions
abbrev pub view : {X C : Type 0} → HostState X C → Server
view s = record {
  boot = s.contexts.boot;
  made = s.contexts.made;
  root = root_in s.contexts.entries;
  kept = kept_in s.state.sessions;
  last = last_in s.state.sessions;
}

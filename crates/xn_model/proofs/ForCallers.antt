-- What crates above cite in their proofs, by subject. They import no other module of these proofs.

-- lists, bytes and tests
pub use Rattle.xn_model.proofs.Lists.{Contains-cons, Contains-drop, Contains-head, Contains-none, Contains-tail, Contains-take, all_at, any_at, any_from, blocks_of_at, blocks_of_has, filter_at, filter_from, has_number_at, has_number_from, has_pair_at, has_pair_from, last_of}
pub use Rattle.xn_model.proofs.Bytes.{blocks_read, length-joined}
pub use Rattle.xn_model.proofs.Tests.{IsOwn, alive_from, fresh_from, fs_from, given_ok, map_ok, never_ok, no_states_from, none_from, own_then, owned_from, same_ok, then_ok, unless_ok, unless_passed}
pub use Rattle.xn_model.proofs.Puts.{bytes_apart, bytes_within, length_put}
-- block 0
pub use Rattle.xn_model.proofs.RootBytes.{different_apart, not_empty, range_at, roots_from, slot_keeps, slot_other, slot_same, slot_stays, template_owned, template_type, templates_at, templates_from}
pub use Rattle.xn_model.proofs.PointerBytes.{pointer_keeps, pointer_length, pointer_names, pointer_other, pointer_same, pointer_stays, slot_still}
pub use Rattle.xn_model.proofs.Catalogue.{has_built_in, has_keeps, keeps_self, keeps_then, on_disk_is, place_of, pointers_first, pointers_last}
-- types
pub use Rattle.xn_model.proofs.Languages.{built_ins_in, fits_same, installed_has, latest_each, none_owned, same_installed, same_owned, same_size, same_template, template_is, types_all, types_same}
-- lives and their changes
pub use Rattle.xn_model.proofs.Lives.{accepted_is, begun_is, change_same, each_at, each_back, each_forth, free_at, free_back, free_forth, freed_is, life_from, of_life, of_root, place_from, set_other, set_same, settled_is, settled_none}
pub use Rattle.xn_model.proofs.States.{accepted_other, accepted_same, fresh_owned, owned_dropped, status_cases}
pub use Rattle.xn_model.proofs.Changes.{accept, accepted, bared, each, free, settled, with_begun}
pub use Rattle.xn_model.proofs.Carry.{settled_fewer, settled_last}
pub use Rattle.xn_model.proofs.Chains.{ends_itself, same_end}
pub use Rattle.xn_model.proofs.Orders.{below_next}
-- calls
pub use Rattle.xn_model.proofs.Given.{gives_exactly-err, gives_exactly-ok, gives_exactly_keeps, gives_keeps}
pub use Rattle.xn_model.proofs.Init.{init_keeps, lowest_is}
pub use Rattle.xn_model.proofs.Edits.{addable, addable_system, claim_stays, claimed, droppable, in_newest, not_root, propose_keeps}
pub use Rattle.xn_model.proofs.Roots.{drop_root_keeps, make_root_keeps, newest_is, root_lists, root_named, root_owns, small_life}
pub use Rattle.xn_model.proofs.Install.{IsInstalled, begun_kept, install_keeps, installed_is, installed_others, installed_own, place_is}
pub use Rattle.xn_model.proofs.Begin.{begun_keeps}
pub use Rattle.xn_model.proofs.Ends.{Settles, drops_at, forget_keeps, settled_keeps, settles_place}
pub use Rattle.xn_model.proofs.Floors.{entries_counted, floor_low, floor_met}
-- writes, lanes and drains
pub use Rattle.xn_model.proofs.Flights.{begun_idle, flight_bytes, flight_count, flights_begun, flights_drop_root, flights_forget, flights_init, flights_install, flights_make_root, flights_propose, flights_settled}
pub use Rattle.xn_model.proofs.LaneCalls.{forgets, lanes_begun, lanes_drop_root, lanes_forget, lanes_init, lanes_install, lanes_make_root, lanes_mounted, lanes_propose, lanes_settled}
pub use Rattle.xn_model.proofs.Lands.{begin_keeps, idle_rests, land_keeps, left_may, left_placed, none_given_at, none_open, sync_keeps, told_keeps}
pub use Rattle.xn_model.proofs.Drains.{drain_ends, picked_life}
pub use Rattle.xn_model.proofs.Rounds.{none_pending, none_picked, picked_begins, round_leaves, wrote_out}
-- waves
pub use Rattle.xn_model.proofs.Prefixes.{step_more}
pub use Rattle.xn_model.proofs.Picks.{picks_first, picks_none}
pub use Rattle.xn_model.proofs.WaveCalls.{begun_life_apart, begun_not_ready, begun_pending, begun_prefix_apart, begun_ready_apart, begun_settles, ready_begins, settled_life_apart, settled_pending}
pub use Rattle.xn_model.proofs.Waves.{wave_does, wave_flies, wave_runs}
pub use Rattle.xn_model.proofs.Flush.{calm_does, calm_runs, flush_answered, flush_ends, flush_runs, ready_found, ready_in, ready_wave, wave_flights, wave_idle, wave_less}
pub use Rattle.xn_model.proofs.Mixes.{mixes_rest, writes_mix}
pub use Rattle.xn_model.proofs.Ranks.{entries_rank, waves_chain, waves_ranked}
-- images and mounts
pub use Rattle.xn_model.proofs.Reached.{agreement, among_states, carried_pending, durable_in, in_range, now_reached, positive, reached_installed, reached_now, reached_owned, soundness}
pub use Rattle.xn_model.proofs.Walk.{recovered_is}
pub use Rattle.xn_model.proofs.Mount.{mount_holds, types_recovered}
-- runs
pub use Rattle.xn_model.proofs.Runs.{crash_mounts, crash_sound, left_agrees, left_installed, left_owned, left_sound, step_keeps, world_sound, write_out_keeps}
pub use Rattle.xn_model.proofs.Growth.{types_grow, types_kept, types_mounted, types_stay}

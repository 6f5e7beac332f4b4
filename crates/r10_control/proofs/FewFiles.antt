-- How many files a mount finds.
use Rattle.std.proofs.Common.{◌≡◌, ℕ, ◌+◌, ◌-◌, ◌^◌, ◌≤◌, ◌++◌, length, min, List, [], ◌∷◌, arith}
use Rattle.r10_dirchain.specs.Chain.{listed_files}
use Rattle.r10_dirchain.specs.declared.chain.ChainBlock.{ChainBlock}
use Rattle.r10_machine.specs.Config.{Config}
use Rattle.r10_machine.specs.Limits.{IsConfig, channel_ids, channels_rules, id_rules, name_rules, size_rules}
use Rattle.r10_machine.specs.declared.fault.SettingsFault.TheVariants as settings_faults
use Rattle.r10_machine.proofs.Ranges.{within}
use Rattle.r10_count.specs.Names.{is_within}
use Rattle.r10_medium.specs.Disk.{Image}
use Rattle.r10_volume.specs.Mounting.{IsUsable}
use Rattle.r10_control.proofs.Statuses.{usable_few}
use Rattle.r10_count.proofs.Rules.{none_broken, rules_parts}

blocks_within : (s : Config) → IsConfig s → (s.directory + 2 ≤ s.blocks) × (s.blocks ≤ 16777216)
blocks_within s limits =
    let sizes = size_rules s.blocks s.directory (length s.channels) in
    let ids = id_rules [] (s.time ∷ s.event ∷ channel_ids s.channels) in
    let channels = channels_rules s.channels in
    let c = rules_parts (sizes ++ ids ++ channels) (name_rules s.nodes s.volume) limits in
    let b = rules_parts (sizes ++ ids) channels c.0 in
    let a = rules_parts sizes ids b.0 in
    within (s.directory + 2) 16777216 s.blocks (none_broken (is_within (s.directory + 2) 16777216 s.blocks) settings_faults.Blocks _ a.0).0

-- a directory that is used lists few of them
pub few_listed : (s : Config) (image : Image) (chain : List ChainBlock) → IsConfig s → length image ≡ s.blocks → IsUsable s.directory image chain → min (length (listed_files chain)) (2 ^ 64 - 1) ≡ length (listed_files chain)
few_listed s image chain limits blocks usable =
    let range = blocks_within s limits in
    let few = usable_few s.directory image chain usable (omega (arith, range.0, blocks)) in
    omega (arith, few, range.1, blocks)

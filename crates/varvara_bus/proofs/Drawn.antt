use Rattle.std.proofs.Common.{rules}
use Rattle.screen_layers.specs.Pictures.{Picture}
use Rattle.screen_layers.specs.Layers.{Layers, RepresentsPicture as ScreenRepresents}
use Rattle.file_ports.specs.Device.{Suits}
use Rattle.varvara_bus.specs.declared.devices.Devices.{Devices}
use Rattle.varvara_bus.specs.State.{DeviceState, DevicesRepresent}

-- devices whose screen was drawn on
pub drawn_on : (devices : Devices) (screen : Layers) (state : DeviceState) (picture : Picture) (one : Suits devices.root devices.first_file)
    (other : Suits devices.root devices.second_file) → DevicesRepresent devices state → ScreenRepresents screen picture
    → DevicesRepresent (record devices { screen = screen; first_suits = one; second_suits = other }) (record state { picture = picture })
drawn_on devices screen state picture one other stands drawn = search (rules, stands, drawn)

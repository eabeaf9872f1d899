-- Ports (Varvara device reference).
use Rattle.std.specs.Prelude.{◌≡◌}
use Rattle.uxn_limits.specs.declared.ports.TheConstants as port

-- the ports that definitions cite, by their numbers
pub record ArePorts : Type 0 where
  pub system_state : port.SYSTEM_STATE ≡ 0x0f
  pub console_vector : port.CONSOLE_VECTOR ≡ 0x10
  pub console_read : port.CONSOLE_READ ≡ 0x12
  pub console_type : port.CONSOLE_TYPE ≡ 0x17
  pub console_write : port.CONSOLE_WRITE ≡ 0x18
  pub screen_vector : port.SCREEN_VECTOR ≡ 0x20
  pub screen_width : port.SCREEN_WIDTH ≡ 0x22
  pub screen_height : port.SCREEN_HEIGHT ≡ 0x24
  pub screen_auto : port.SCREEN_AUTO ≡ 0x26
  pub screen_x : port.SCREEN_X ≡ 0x28
  pub screen_y : port.SCREEN_Y ≡ 0x2a
  pub screen_addr : port.SCREEN_ADDR ≡ 0x2c
  pub audio_vector : port.AUDIO_VECTOR ≡ 0x30
  pub voice_ports : port.VOICE_PORTS ≡ 0x10
  pub controller_vector : port.CONTROLLER_VECTOR ≡ 0x80
  pub controller_button : port.CONTROLLER_BUTTON ≡ 0x82
  pub controller_key : port.CONTROLLER_KEY ≡ 0x83
  pub controller_p2 : port.CONTROLLER_P2 ≡ 0x85
  pub controller_p3 : port.CONTROLLER_P3 ≡ 0x86
  pub controller_p4 : port.CONTROLLER_P4 ≡ 0x87
  pub mouse_vector : port.MOUSE_VECTOR ≡ 0x90
  pub mouse_x : port.MOUSE_X ≡ 0x92
  pub mouse_y : port.MOUSE_Y ≡ 0x94
  pub mouse_state : port.MOUSE_STATE ≡ 0x96
  pub mouse_scroll_x : port.MOUSE_SCROLL_X ≡ 0x9a
  pub mouse_scroll_y : port.MOUSE_SCROLL_Y ≡ 0x9c
